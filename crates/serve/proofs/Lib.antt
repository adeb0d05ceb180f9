-- Feeding is for readers, Turning for the proofs of the functions.
pub mod Feeding
pub mod Turning
