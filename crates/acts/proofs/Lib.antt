-- Laws of access programs that belong to no one function.
--     Operands    how a program goes on past its reading parts, and past a store that is its last act
--     Keeping     what every ending of a program keeps holds of its result
--     Words       the register record as words, and back
--     Tight       each promise fixes its outcome
pub mod Operands
pub mod Keeping
pub mod Words
pub mod Tight
