-- The proofs of `Exactly` and `Budgets`, each in a file of that name. Assumes nothing.
pub mod Exactly
pub mod Budgets
