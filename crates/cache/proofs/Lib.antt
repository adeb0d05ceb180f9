pub mod Settled
pub mod Demand
pub mod Returns
pub mod Invariant
pub mod Refinement
pub mod Claims
pub mod Lists
