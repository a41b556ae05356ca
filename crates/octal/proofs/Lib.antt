-- Laws of octal's functions that belong to no one function. Assumes nothing.
--     Texts    what formats write of a word and of a bit
--     Tight    each promise fixes its result
pub mod Texts
pub mod Tight
