-- What the calls of the C interface mean, by subject.
--     Calls        a fresh record, one step, a run
--     Fields       an instruction as ten flat fields, read and written
--     Unchecked    an instruction from fields, whatever they are: between private functions only, a reader may skip it
-- Assumes nothing.
pub mod Calls
pub mod Fields
pub mod Unchecked
