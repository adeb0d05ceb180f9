pub mod Tokens
pub mod Examples
pub mod Private
