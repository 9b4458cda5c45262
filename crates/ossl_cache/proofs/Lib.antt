pub mod Showing
pub mod Placing
pub mod Marking
pub mod Making
pub mod Holding
