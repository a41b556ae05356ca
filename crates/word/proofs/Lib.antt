-- Laws of the word layer that belong to no one function.
--     Weights     what a bit weighs
--     Halves      parts that `|` puts together are a sum
--     Carries     the carries into and out of bit 15 tell the overflow
--     Signed      the signed reading, at any width
--     Quotients   the laws of MPY and DIV
--     Places      one place of a long shift after others
--     Cases       01's cases and the ends of the ranges, by computation
--     Tight       each promise fixes its result
pub mod Weights
pub mod Halves
pub mod Carries
pub mod Signed
pub mod Quotients
pub mod Places
pub mod Cases
pub mod Tight
