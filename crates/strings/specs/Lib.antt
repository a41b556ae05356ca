-- What instructions do with bytes, with strings of words or bytes, and with masks.
--     Strings    the instructions, a move for any two maps
--     Copies     what functions promise each other of elements copied in memory; no rule cites it
-- Assumes nothing.
pub mod Strings
pub mod Copies
