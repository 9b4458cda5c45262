pub mod WorkLaws
pub mod BackLaws
