-- Lemmas that several proofs share.
pub mod CountLaws
pub mod TableLaws
pub mod BelowLaws
pub mod UpLaws
pub mod RunningLaws
pub mod ActivationLaws
pub mod AgreeLaws
pub mod NotedLaws
pub mod ChangeLaws
pub mod NoteLaws
