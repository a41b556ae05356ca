-- What the functions of this crate promise. Assumes nothing.
pub mod Lane
pub mod Asking
