pub mod TestLaws
pub mod TableLaws
