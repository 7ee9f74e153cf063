pub mod FirstField
pub mod Entries
pub mod Walked
