pub mod Places
pub mod Answers
pub mod Words
pub mod Strips
pub mod Closes
pub mod Reads
pub mod Writes
