pub mod Settled
pub mod Ones
pub mod Taking
pub mod Unique
