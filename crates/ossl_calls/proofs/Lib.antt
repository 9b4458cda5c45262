-- Lemmas that several proofs share.
pub mod BoxesLaws
pub mod UpLaws
pub mod GoingLaws
pub mod EventLaws
pub mod RoomLaws
pub mod FetchLaws
pub mod LoadLaws
pub mod OpeningLaws
