pub mod Owned
pub mod Answered
pub mod Denials
