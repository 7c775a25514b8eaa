pub mod Contents
pub mod Memory
pub mod Array
pub mod Puts
