-- The two files read byte by byte, as contracts name it.
pub mod Reading
