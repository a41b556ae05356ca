-- Laws of a listing that belong to no one function. Assumes nothing.
--     Tables    a table's first words; which lengths are run
--     Texts     bytes put at the end of a text, and a number in decimal
--     Lines     a text has room for a listing
--     Cases     lines worked out by hand
--     Tight     each promise fixes its result
pub mod Tables
pub mod Texts
pub mod Lines
pub mod Cases
pub mod Tight
