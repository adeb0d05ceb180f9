pub mod Soundness
pub mod Private
