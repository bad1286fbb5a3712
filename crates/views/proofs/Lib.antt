pub mod Others
pub mod Unique
