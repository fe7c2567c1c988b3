pub mod Watches
pub mod Counted
pub mod Tells
pub mod Compared
pub mod Runs
