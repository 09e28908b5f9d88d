pub mod Held
pub mod Started
pub mod Listing
