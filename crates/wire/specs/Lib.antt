pub mod Number
pub mod Sound
pub mod Writing
pub mod Borders
pub mod Said
