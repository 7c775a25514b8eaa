pub mod Stored
pub mod Picked
pub mod Plans
pub mod Puts
