pub mod Product
pub mod Laws
pub mod Meaning
