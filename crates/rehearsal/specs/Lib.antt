pub mod Modules
pub mod Pairs
pub mod Windows
