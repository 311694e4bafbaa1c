pub mod Lists
pub mod EdgeLines
