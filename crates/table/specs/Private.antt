pub mod Linking
pub mod Scanned
pub mod Testing
pub mod Changing
pub mod Masks
pub mod Sides
