pub mod Parts
pub mod Stores
pub mod Streams
pub mod Unique
