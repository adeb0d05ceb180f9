-- What the proofs of several functions use, and the laws for callers.
pub mod Runs
pub mod Numbers
pub mod Words
pub mod Signs
pub mod Cases
pub mod TokenKinds
pub mod Laws
