pub mod Rounds
pub mod Texts
pub mod Refill
pub mod Vectors
