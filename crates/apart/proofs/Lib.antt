-- The proof of demand 3, and examples.
--     Stores      the induction over access programs, and over the budget
--     Apart       the theorems
--     Examples    examples of the theorems, by computation
--     ThroughData examples where a page is open through DATA1 alone, and through DATA2 alone
-- Assumes nothing.
pub mod Stores
pub mod Apart
pub mod Examples
pub mod ThroughData
