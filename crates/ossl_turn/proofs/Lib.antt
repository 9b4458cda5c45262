pub mod Lists
pub mod Views
pub mod Keeps
pub mod Calls
pub mod Passes
pub mod AllBack
