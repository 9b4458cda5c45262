-- What the contracts of the crate cite.
pub mod Answers
pub mod Apps
pub mod Commands
pub mod Numbers
pub mod Options
pub mod Rows
