pub mod Drafts
pub mod Steps
pub mod Telling
pub mod Runs
