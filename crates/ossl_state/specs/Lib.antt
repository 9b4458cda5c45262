-- What the contracts of a registry cite.
pub mod Boxes
pub mod Rows
pub mod State
pub mod Best
pub mod Tokens
pub mod Step
pub mod History
pub mod Sound
pub mod Going
pub mod Text
pub mod Lends
pub mod Mark
pub mod Next
pub mod Ordered
