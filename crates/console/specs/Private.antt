pub mod Commands
pub mod Parts
pub mod Pieces
