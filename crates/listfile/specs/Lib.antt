-- A run file as a list of steps in words, and the same byte by byte, as contracts name it.
pub mod ListWords
pub mod Listing
