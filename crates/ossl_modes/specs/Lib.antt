pub mod Modes
pub mod Return
pub mod Steps
pub mod Run
pub mod Laws
