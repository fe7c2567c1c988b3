-- The laws of `sheet`.
pub mod Room
