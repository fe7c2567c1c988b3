-- The laws of `text`, for its own proofs and those of the crates above it.
pub mod Decimal
pub mod Paste
