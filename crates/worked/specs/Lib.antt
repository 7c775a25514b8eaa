pub mod Examples
pub mod Run
pub mod Searches
