mod Horner
pub mod Combining
pub mod Carding
mod Spans
pub mod Making
