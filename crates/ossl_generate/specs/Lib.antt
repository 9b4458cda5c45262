-- What the contracts of the crate cite.
pub mod Generator
pub mod Summary
