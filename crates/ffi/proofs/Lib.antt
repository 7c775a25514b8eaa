pub mod Numbers
pub mod Told
pub mod Running
pub mod Shelving
pub mod Rows
pub mod Copying
pub mod Lending
pub mod Putting
