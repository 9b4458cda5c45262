-- What the contracts of the crate cite.
pub mod Opening
pub mod Turns
pub mod Run
-- what the contracts of the parts cite
pub mod Owned
pub mod Opened
pub mod Work
