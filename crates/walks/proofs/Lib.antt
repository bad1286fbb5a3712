pub mod Padding
pub mod Steps
pub mod Turns
pub mod Unique
