pub mod Fit
pub mod Numbers
pub mod Reading
pub mod Subcommands
pub mod Tables
pub mod Walks
