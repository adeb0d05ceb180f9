pub mod Stored
pub mod Examples
pub mod Private
