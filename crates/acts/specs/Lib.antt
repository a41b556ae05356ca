-- What rules are stated with, by subject. The rules themselves are in the crates above.
--     Replies, Record    the replies and the register record
--     Acts               what a rule is, and how one is run
-- Assumes nothing.
pub mod Replies
pub mod Record
pub mod Acts
