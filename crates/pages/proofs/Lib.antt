pub mod Filling
pub mod Unique
