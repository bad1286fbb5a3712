pub mod Digits
pub mod Characters
pub mod Turns
pub mod Room
pub mod Pieces
pub mod Borders
pub mod Unique
