-- What the contracts of the crate cite.
pub mod Digest
pub mod Holds
pub mod Md4
pub mod Laws
