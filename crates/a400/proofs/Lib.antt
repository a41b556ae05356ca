-- Laws of the C interface that belong to no one function.
--     Records     a step that is refused leaves the words as given
--     Answering   a call put together from what the machine promises
--     WordSearch  the search for the word that reads as fields
--     Inverse     reading and writing fields are inverse
--     Writes      the writer of fields, put together from its parts
--     Tight       each promise fixes its outcome
-- Assumes nothing.
pub mod Records
pub mod Answering
pub mod WordSearch
pub mod Inverse
pub mod Writes
pub mod Tight
