pub mod Local
pub mod Lists
