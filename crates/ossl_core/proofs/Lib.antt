pub mod Laws
pub mod Spending
