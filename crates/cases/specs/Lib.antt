-- The worked cases of 01. Assumes nothing.
pub mod Table
