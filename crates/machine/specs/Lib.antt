-- What a step and a run mean. The rules are in the crate `rules`, and what they are stated with in the crates below it.
-- Assumes nothing.
pub mod Step
pub mod Turns
