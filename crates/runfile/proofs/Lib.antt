-- The laws of the two readers (`RunLines`, `CrateLines`, `Cut`), and what the proofs of the functions cite besides.
pub mod CrateLines
pub mod Cut
pub mod Found
pub mod Letters
pub mod Numbers
pub mod RunLines
