pub mod Recent
pub mod Marks
pub mod Places
