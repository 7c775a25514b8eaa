mod Numbers
mod Growing
mod Spans
pub mod Ordering
