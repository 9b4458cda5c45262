-- Lemmas that several proofs share.
pub mod EachLaws
mod ResultsLaws
pub mod RunLaws
