pub mod Contents
pub mod Arrays
pub mod Puts
