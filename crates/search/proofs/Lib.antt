pub mod Search
pub mod Examples
pub mod Unique
