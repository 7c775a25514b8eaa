mod Listing
mod Taking
mod Once
mod Exact
