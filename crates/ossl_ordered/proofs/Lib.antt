pub mod TurnLaws
pub mod DoneLaws
pub mod FixedLaws
mod LiveLaws
mod ClosedLaws
pub mod ProgramLaws
mod WorkLaws
mod OrderLaws
mod ReturnLaws
mod TakeLaws
pub mod RunLaws
mod EachLaws
mod WorkedRuns
