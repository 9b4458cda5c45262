-- Lemmas that several proofs share.
pub mod ClosingLaws
pub mod CourseLaws
pub mod CrewLaws
pub mod HistoryLaws
pub mod RunLaws
