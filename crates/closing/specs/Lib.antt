pub mod Counting
pub mod Closings
pub mod Marks
pub mod Soundings
