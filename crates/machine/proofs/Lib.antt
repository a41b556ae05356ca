-- Laws of the machine that belong to no one function.
--     Good            a step keeps the call good
--     Running         a run, one step after another
--     Tight           each promise fixes its outcome
pub mod Good
pub mod Running
pub mod Tight
