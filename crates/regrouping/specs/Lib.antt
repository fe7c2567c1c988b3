-- What is printed of two files.
pub mod Files
