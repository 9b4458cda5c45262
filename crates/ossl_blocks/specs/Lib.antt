-- What the contracts of the crate cite.
pub mod Cut
pub mod Held
pub mod Xor
