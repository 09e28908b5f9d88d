pub mod Refusals
pub mod Records
pub mod Cards
pub mod Answers
pub mod Laws
