-- What the word layer means: first the words that the rules are stated with, then the rules in the order of 01. A word is a
-- number below 2 ^ 16, a double word one below 2 ^ 32; a definition speaks of every number. Not here: the laws (`Signed`,
-- `Quotients` and `Places` of proofs/), 01's cases (`Cases`) and that each promise fixes its result (`Tight`).
--     Words       a bit of a word, two words joined, bytes, masks
--     Signed      the signed value of a word or a double word
--     Sums        adding with carry and overflow; 15-bit addresses
--     Shifts      shift codes 0 to 7, enabled and disabled
--     Products    MPY and DIV
--     Long        the long shifts of B,A
--     Orders      comparing words and bytes
-- Assumes nothing.
pub mod Words
pub mod Signed
pub mod Sums
pub mod Shifts
pub mod Products
pub mod Long
pub mod Orders
