-- Laws that belong to no one function.
--     Arriving    how an instruction comes to its address
--     Tight       each promise fixes its outcome
pub mod Arriving
pub mod Tight
