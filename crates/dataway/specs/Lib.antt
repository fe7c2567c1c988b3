pub mod Crate
pub mod Stations
pub mod Controls
pub mod Addressed
pub mod Lam
pub mod Asking
pub mod Covered
