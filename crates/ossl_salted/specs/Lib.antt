-- What the contracts of the crate cite.
pub mod Course
pub mod Ends
pub mod File
pub mod Flow
pub mod Header
pub mod Outside
pub mod Return
pub mod Words
