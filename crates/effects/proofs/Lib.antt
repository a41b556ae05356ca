-- Laws of these instructions that belong to no one function.
--     Doubles       two stores by one test of both places
--     CasesGroup    cases of 01 without memory, by computation
--     Tight         each promise fixes its outcome
pub mod Doubles
pub mod CasesGroup
pub mod Tight
