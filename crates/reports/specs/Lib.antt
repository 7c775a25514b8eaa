pub mod Cards
pub mod Report
pub mod Receipt
pub mod Text
pub mod Exact
