pub mod Boards
pub mod Entries
pub mod Paths
pub mod Rows
