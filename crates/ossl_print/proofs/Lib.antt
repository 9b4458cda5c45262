-- Lemmas that several proofs share.
pub mod OrderLaws
pub mod ResultsLaws
pub mod EndedLaws
mod WorkedOutputs
