-- What the contracts of the crate cite.
pub mod Block
pub mod KeyStream
pub mod Generator
pub mod Ends
