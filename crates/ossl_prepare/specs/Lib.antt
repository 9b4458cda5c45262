-- What the contracts of the crate cite.
pub mod ErrorLine
pub mod Due
pub mod View
pub mod Answered
pub mod Task
