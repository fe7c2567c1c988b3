pub mod Within
pub mod Found
pub mod Flags
pub mod Sheets
