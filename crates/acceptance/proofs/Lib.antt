pub mod Entries
pub mod RuleLaws
