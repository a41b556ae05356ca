-- Laws of this crate that belong to no one function. Assumes nothing.
--     Extended    the extended codes by their words
--     Groups      shift/rotate and alter/skip by their parts
--     Ways        how a step, or a way at an address, is completed
pub mod Extended
pub mod Groups
pub mod Ways
