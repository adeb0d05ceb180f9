-- What the proofs of several functions use, and the laws for callers.
pub mod Records
pub mod Buffers
pub mod Laws
pub mod Demand
