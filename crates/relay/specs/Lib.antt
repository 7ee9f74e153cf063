pub mod Deliveries
pub mod Own
