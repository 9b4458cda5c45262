pub mod Gcm
pub mod Run
pub mod Held
pub mod Outcome
pub mod Laws
