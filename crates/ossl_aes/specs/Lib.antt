pub mod Field
pub mod Cipher
pub mod Inverse
pub mod State
pub mod Rounds
