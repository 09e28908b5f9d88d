pub mod Computed
pub mod Cases
