pub mod Cells
pub mod Random
pub mod Scripts
