-- The laws of `report`.
pub mod RunLaws
pub mod LineLaws
pub mod HeardLaws
pub mod ReportLaws
pub mod SoleReport
