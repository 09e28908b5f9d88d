pub mod Pieces
pub mod Moments
pub mod Divisions
pub mod Counting
pub mod Rows
pub mod Handing
pub mod Fitting
pub mod Exits
