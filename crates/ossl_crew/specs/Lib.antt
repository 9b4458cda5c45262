-- What the contracts of the crate cite.
pub mod Crew
pub mod Course
