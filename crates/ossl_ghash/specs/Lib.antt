pub mod Ghash
pub mod Nibbles
