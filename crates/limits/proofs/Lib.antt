pub mod Concluded
pub mod Unique
