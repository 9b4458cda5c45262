-- Lemmas that several proofs share.
pub mod ListLaws
pub mod ActiveLaws
pub mod SoundLaws
pub mod ChoiceLaws
pub mod HistoryLaws
pub mod TokenLaws
pub mod LegalLaws
pub mod RowsLaws
pub mod MarkLaws
pub mod NextLaws
pub mod WorkedRows
pub mod WorkedLoads
pub mod WorkedRules
pub mod OrderLaws
pub mod PlaceLaws
pub mod OrderedLaws
