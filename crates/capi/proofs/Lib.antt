pub mod CallLaws
pub mod Sentences
pub mod WindowLaws
