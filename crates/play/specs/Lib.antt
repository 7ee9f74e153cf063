pub mod Lending
pub mod Moves
pub mod Played
