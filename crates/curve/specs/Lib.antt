pub mod Cells
pub mod Fewest
pub mod Legs
pub mod Refusals
pub mod Pieces
