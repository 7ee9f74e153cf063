pub mod Gathering
pub mod Parting
pub mod Walking
mod Reading
mod Pairs
