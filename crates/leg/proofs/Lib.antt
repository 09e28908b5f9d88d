pub mod Reasoned
pub mod Weights
pub mod Told
pub mod Seams
