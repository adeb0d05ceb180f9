pub mod Places
pub mod Reading
pub mod Sentences
pub mod Built
