pub mod Masks
pub mod Pairs
pub mod Flat
pub mod Least
pub mod Literals
pub mod Deciding
pub mod Relevance
