pub mod Name
pub mod Groups
pub mod Addition
pub mod Index
