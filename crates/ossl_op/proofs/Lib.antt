pub mod Examples
mod BeginRows
pub mod ResultRows
pub mod BlockRows
pub mod ModeLaws
pub mod CodeLaws
pub mod WorkLaws
pub mod PieceLaws
pub mod BeginLaws
