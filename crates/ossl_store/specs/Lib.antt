pub mod Offering
pub mod Best
pub mod Shelves
pub mod Stored
pub mod Choice
pub mod Greatest
