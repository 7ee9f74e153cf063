pub mod Refusals
pub mod Failures
