mod BlockFacts
mod FieldFacts
pub mod Undoing
pub mod Lists
mod RoundFacts
mod ScheduleFacts
mod TableFacts
mod Vectors
pub mod Words
pub mod Quarters
