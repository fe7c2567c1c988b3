-- The laws of `classes`.
pub mod TextLaws
