-- The laws of `regrouping`.
pub mod FilesLaws
