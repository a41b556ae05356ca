-- What octal's functions give. Assumes nothing.
pub mod Digits
