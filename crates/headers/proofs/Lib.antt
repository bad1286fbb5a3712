pub mod Unique
pub mod Said
