pub mod Nodes
pub mod Scans
pub mod Worked
