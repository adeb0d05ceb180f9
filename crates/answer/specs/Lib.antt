pub mod Answer
pub mod Examples
pub mod Demand
pub mod Refusal
