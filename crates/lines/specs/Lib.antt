-- The lines of a file, and the same byte by byte.
pub mod Lines
pub mod Cutting
