-- What the program prints.
pub mod Table
