pub mod Weights
pub mod Cards
pub mod Shown
