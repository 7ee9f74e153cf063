pub mod Grammar
pub mod Texts
pub mod Kinds
pub mod Runs
pub mod Stops
