pub mod Cycle
pub mod Scan
pub mod Repeat
pub mod Stop
pub mod Walk
pub mod Put
pub mod Held
pub mod Faults
