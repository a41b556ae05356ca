-- Assumes nothing.
pub mod Holds
