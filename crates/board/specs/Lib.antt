pub mod Tables
pub mod Setups
pub mod Sends
pub mod Lists
pub mod Looks
