pub mod Refusals
pub mod Openings
pub mod Accepted
pub mod Answered
pub mod Proposed
pub mod Order
