-- The rule of each instruction, of a trap cell and of a step. What instructions do is in the crates `effects` and `strings`, what a
-- rule is in `acts`.
-- Assumes nothing.
pub mod Rules
