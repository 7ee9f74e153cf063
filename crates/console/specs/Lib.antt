pub mod Turns
pub mod Letters
pub mod Grammar
pub mod Spots
