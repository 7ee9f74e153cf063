pub mod Counts
pub mod Pushes
pub mod Laws
pub mod Endings
