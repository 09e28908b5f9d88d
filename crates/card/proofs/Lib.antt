pub mod Codec
pub mod Headers
pub mod Reading
pub mod Carried
pub mod Values
pub mod Writing
pub mod Keeping
