pub mod Setups
pub mod Closes
pub mod Calls
pub mod Effects
pub mod Phases
pub mod Done
