-- Laws of the rules that belong to no one function.
--     Parts      where the parts that rules are made of lead
--     Valid      a step keeps the record valid
--     Lengths    the words of an instruction, by the table and by the rules
--     Tight      each promise fixes its outcome
pub mod Parts
pub mod Valid
pub mod Lengths
pub mod Tight
