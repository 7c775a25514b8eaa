mod Numbers
mod Picking
mod Mapping
mod Solving
mod Planning
mod Weighing
mod Gathering
pub mod Stating
mod Putting
pub mod Ordering
