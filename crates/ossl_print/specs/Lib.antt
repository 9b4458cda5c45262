-- What the contracts of the crate cite.
pub use Rattle.ossl_watch.specs.Changes
pub mod Batched
pub mod Order
pub mod Results
pub mod Output
