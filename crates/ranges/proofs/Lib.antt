pub mod Steps
pub mod Sound
pub mod Listed
pub mod Unique
