-- What the maps layer means, by subject, in the order of 01.
--     Troubles  what ends a step that met trouble
--     Pages     page registers and WMAP; where a logical address leads
--     Access    a word read and stored there
--     Chains    indirect chains
--     Bytes     a byte's word and half
--     Open      what the three current maps leave open
-- Assumes nothing.
pub mod Troubles
pub mod Pages
pub mod Access
pub mod Chains
pub mod Bytes
pub mod Open
