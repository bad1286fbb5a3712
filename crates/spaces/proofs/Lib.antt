pub mod Shared
pub mod Each
pub mod Unique
