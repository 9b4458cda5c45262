-- Lemmas of the tests.
pub mod WorkedLaws
