pub mod Held
pub mod Participants
pub mod Results
