pub mod Bits
pub mod Bounds
pub mod Slots
pub mod Running
pub mod Ups
pub mod Places
pub mod Unique
