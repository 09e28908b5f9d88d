pub mod Legs
pub mod Ticks
pub mod Chains
pub mod Values
pub mod Reasons
