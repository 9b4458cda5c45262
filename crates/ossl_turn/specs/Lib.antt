pub mod History
pub mod Turn
pub mod Kinds
pub mod Passes
