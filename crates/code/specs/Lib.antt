-- What a word of the program is, by subject.
--     Kinds           the extended codes' kinds, numbered
--     Codes           the table of the extended codes, and its search
--     Instructions    every word's instruction, and every instruction's word
-- Assumes nothing.
pub mod Kinds
pub mod Codes
pub mod Instructions
