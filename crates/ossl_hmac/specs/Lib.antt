-- What the contracts of the crate cite.
pub mod Hmac
pub mod Holds
pub mod Pbkdf2
