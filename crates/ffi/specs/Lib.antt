pub mod Answers
pub mod Script
pub mod Runs
pub mod Images
pub mod Parity
pub mod Copies
pub mod Recorded
pub mod Puts
