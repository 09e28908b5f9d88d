pub mod Coordinates
