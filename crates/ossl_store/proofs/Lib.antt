pub mod Positions
pub mod Moves
pub mod Ascending
pub mod Picking
pub mod Offers
pub mod Choosing
pub mod Placed
pub mod Greatest
