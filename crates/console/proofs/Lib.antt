-- What the proofs of several functions use; Bounds is for callers.
pub mod Rooms
pub mod Gathering
pub mod Words
pub mod Constants
pub mod Commands
pub mod Puttings
pub mod Digits
pub mod Shown
pub mod Prints
pub mod Calling
pub mod Said
pub mod Replying
pub mod Values
pub mod Demand
pub mod Bounds
pub mod Finding
