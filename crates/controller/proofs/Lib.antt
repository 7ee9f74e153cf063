pub mod PlaceLaws
pub mod AnswerLaws
pub mod CloseLaws
pub mod ReadLaws
pub mod WriteLaws
