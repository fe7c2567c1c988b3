pub mod Modules
pub mod Results
pub mod Refusals
pub mod Touches
pub mod Entries
pub mod Verdict
pub mod Reached
