-- What instructions do with a word at an address, and with registers alone. Which instruction does what is in the crate `rules`.
--     Ways       by the way in which an instruction works on memory
--     Group      instructions that touch no memory
--     Doubles    what functions promise each other of DST's two places; no rule cites it
-- Assumes nothing.
pub mod Ways
pub mod Group
pub mod Doubles
