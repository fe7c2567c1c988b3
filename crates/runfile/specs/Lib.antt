-- What the contracts of `runfile` cite: the lines of the two files and what a reading claims, an executable reader, and the answers of the parts as it has them.
pub mod Lines
pub mod Parts
pub mod Read
