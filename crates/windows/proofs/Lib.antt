pub mod WithinLaws
pub mod FoundLaws
pub mod Locality
pub mod FlagLaws
pub mod SheetLaws
