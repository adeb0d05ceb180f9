pub mod Outcomes
pub mod Marks
