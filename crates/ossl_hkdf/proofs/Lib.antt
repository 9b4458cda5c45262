pub mod Expansion
pub mod Vectors
