pub mod BeginLaws
pub mod BoardLaws
pub mod CallLaws
pub mod ResultLaws
pub mod Same
