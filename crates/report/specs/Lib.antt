-- What the program prints of two lists.
pub mod Report
pub mod Maximal
pub mod Lines
