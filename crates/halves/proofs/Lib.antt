pub mod Seats
pub mod Unique
