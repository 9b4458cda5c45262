-- What the contracts of the registry cite.
pub use Rattle.ossl_state.specs.Boxes
pub use Rattle.ossl_state.specs.Rows
pub use Rattle.ossl_state.specs.State
pub use Rattle.ossl_state.specs.Best
pub use Rattle.ossl_state.specs.Tokens
pub use Rattle.ossl_state.specs.Step
pub use Rattle.ossl_state.specs.History
pub use Rattle.ossl_state.specs.Sound
pub use Rattle.ossl_state.specs.Going
pub use Rattle.ossl_state.specs.Mark
pub use Rattle.ossl_state.specs.Next
pub use Rattle.ossl_state.specs.Text
pub mod Registry
pub mod Kept
pub mod Events
pub mod Change
pub mod Started
