-- What the program prints: the lines of one step, and the sheet of two files.
pub mod Answers
pub mod Sheet
