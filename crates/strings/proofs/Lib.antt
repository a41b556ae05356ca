-- Laws of strings that belong to no one function.
--     Bytes           how a byte store ends, by its place
--     Comparisons     one turn of a comparison
--     Ranges          the tests and stores of a move, element by element
--     Stretches       elements that lie on one page, and the tests of a range by its pages
--     Copying         a move after its tests
--     Alike           bytes copied by whole words
--     Touching        whether a range touches A or B, from its ends
--     CasesMoves      C12, by computation
--     CasesStrings    C13, by computation
--     Tight           each promise fixes its outcome
pub mod Bytes
pub mod Comparisons
pub mod Ranges
pub mod Stretches
pub mod Copying
pub mod Alike
pub mod Touching
pub mod CasesMoves
pub mod CasesStrings
pub mod Tight
