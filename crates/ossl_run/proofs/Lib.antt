-- Lemmas that several proofs share.
mod ListLaws
pub mod DueLaws
pub mod EndLaws
pub mod RanLaws
pub mod TextLaws
pub mod CallerLaws
mod CourseLaws
mod ClosingLaws
mod SummedLaws
