-- The laws of `reader`.
pub mod Buffers
pub mod ReadingLaws
pub mod Whole
pub mod InPlace
