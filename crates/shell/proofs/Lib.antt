-- The laws of `shell`.
pub mod HandedLaws
pub mod ListedLaws
