pub mod Gathered
pub mod Coming
pub mod Fields
pub mod Walk
pub mod Digits
