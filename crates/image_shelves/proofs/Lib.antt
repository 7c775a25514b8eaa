mod Regions
mod Images
pub mod Puts
