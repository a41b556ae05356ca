-- When each reply is given, and how a budget may be cut: over the meaning that `step` and `run` promise. No function.
--     Exactly     when a step and a run reply what they do
--     Budgets     a run cut in two
-- Assumes nothing.
pub mod Exactly
pub mod Budgets
