-- What a closed page holds can make no difference: demand 3, over the meaning that `step` and `run` promise. No function.
--     Alike       the words of the theorems: two machines alike, memories kept apart, results alike
--     Apart       what the theorems claim
-- Assumes nothing.
pub mod Alike
pub mod Apart
