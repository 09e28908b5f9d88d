pub mod Vectors
pub mod Measures
pub mod Flows
pub mod Boxes
pub mod Laws
