-- What the contracts of the crate cite.
pub mod Gives
pub mod Hkdf
