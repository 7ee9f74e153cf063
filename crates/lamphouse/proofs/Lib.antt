pub mod HexLaws
pub mod AllLaws
pub mod WholeLine
pub mod Enough
pub mod RunLaws
