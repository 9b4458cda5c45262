-- What a configuration text says (config(5), with rules of this project's own), step by step: logical lines, what
-- counts of them, values, sections, what a line says, the reading of all lines with included files, and the settings.
pub mod View
pub mod Refused
pub mod Lines
pub mod Counted
pub mod Values
pub mod Sections
pub mod Said
pub mod Reading
pub mod Answers
pub mod Settings
-- what the contracts of private functions cite
pub mod Places
pub mod Rows
pub mod Kept
pub mod Progress
pub mod Private
