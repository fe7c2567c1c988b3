pub mod Stations
pub mod Skip
pub mod Commute
pub mod Whole
pub mod Local
pub mod Samples
