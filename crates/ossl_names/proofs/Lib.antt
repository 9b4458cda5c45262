pub mod Finds
pub mod Groups
pub mod Indexed
pub mod Addition
pub mod Held
pub mod Law
pub mod Worked
