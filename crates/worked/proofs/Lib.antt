mod Computing
pub mod Tested
pub mod Run
mod Searches
