pub mod Sends
pub mod Parts
pub mod Deliveries
pub mod Own
