pub mod Turns
pub mod Served
