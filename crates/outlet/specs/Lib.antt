pub mod Outlets
pub mod Laws
