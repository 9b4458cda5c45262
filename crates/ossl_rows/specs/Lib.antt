-- What the contracts of the crate cite.
pub mod Tables
pub mod Cases
