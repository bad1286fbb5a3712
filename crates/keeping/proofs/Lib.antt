pub mod Keeping
pub mod Meaning
pub mod Unique
