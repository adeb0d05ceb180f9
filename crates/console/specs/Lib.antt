pub mod Room
pub mod Lines
pub mod Printed
pub mod Desk
pub mod Demand
pub mod Examples
pub mod Private
