-- What the contracts of the crate cite.
pub mod Kind
pub mod Limit
pub mod Lines
pub mod Starts
pub mod Words
pub mod Named
pub mod Table
pub mod Judging
pub mod Counts
pub mod Fits
pub mod Contents
pub mod View
