-- What the contracts of the crate cite.
pub mod Tables
pub mod Begins
pub mod Standard
pub mod Laws
pub mod Work
pub mod Running
pub use Rattle.ossl_modes.specs.declared.kinds.FinishRefused
