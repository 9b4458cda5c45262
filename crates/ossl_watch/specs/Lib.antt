-- What the contracts of the crate cite.
pub mod Changes
pub mod Watched
pub mod Watching
