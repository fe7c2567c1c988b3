pub mod Parts
pub mod StepLaws
pub mod Lent
pub mod Running
pub mod Orders
