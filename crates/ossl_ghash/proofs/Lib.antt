pub mod Linear
pub mod Nibbles
pub mod Hashing
pub mod Vectors
