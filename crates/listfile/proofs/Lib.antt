-- The laws of `listfile`.
pub mod WordLaws
pub mod ListingLaws
pub mod Whole
