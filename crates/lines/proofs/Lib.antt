-- The laws of `lines`.
pub mod Parts
pub mod LfLaws
pub mod CuttingLaws
pub mod Counting
pub mod Whole
