pub mod ListLaws
pub mod ModuleLaws
pub mod PairLaws
pub mod ToldLaws
pub mod WindowLaws
