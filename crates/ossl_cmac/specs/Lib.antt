pub mod Cmac
pub mod Run
pub mod Laws
