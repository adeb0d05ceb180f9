pub mod Input
pub mod Examples
pub mod Private
