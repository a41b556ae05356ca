-- Laws of the codes and instructions that belong to no one function.
--     Truth           truth values
--     Digits          numbers from their parts
--     Search          the search of a table
--     Rising          the row of a word by halving
--     Table           each kind is found in the table, and has its own number
--     Numbers         from the number of a kind back to the kind
--     Picks           the fields that are a choice, and their numbers
--     Fields          the groups that their leading bits decide, written and read again
--     Rows            the extended group, written and read again
--     Again           all groups together
--     Exact           reading and writing are inverse: the theorems
--     Tight           each promise fixes its outcome
pub mod Truth
pub mod Digits
pub mod Search
pub mod Rising
pub mod Table
pub mod Numbers
pub mod Picks
pub mod Fields
pub mod Rows
pub mod Again
pub mod Exact
pub mod Tight
