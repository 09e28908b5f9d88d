pub mod Refusals
pub mod Settings
pub mod Calls
pub mod Reasons
pub mod Outcomes
pub mod Runs
pub mod Whole
pub mod Claims
