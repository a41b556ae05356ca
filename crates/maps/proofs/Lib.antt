-- What is proved beside the functions' own proofs. Assumes nothing.
--     Accesses lemmas of the two tests, words and chains
--     Laws     what the layer promises upward
--     Cases    01's cases, near misses and long chains, by computation
--     Tight    each promise fixes its outcome
pub mod Accesses
pub mod Laws
pub mod Cases
pub mod Tight
