pub mod Evaluated
pub mod Tests
pub mod Changed
pub mod Demand
pub mod Examples
pub mod Private
pub mod Rows
