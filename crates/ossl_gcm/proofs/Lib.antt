pub mod Numbers
pub mod Counting
pub mod Tags
pub mod Sealing
pub mod Starts
pub mod Runs
pub mod Examples
