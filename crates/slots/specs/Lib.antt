pub mod Order
pub mod Keys
pub mod Same
pub mod Examples
pub mod Private
