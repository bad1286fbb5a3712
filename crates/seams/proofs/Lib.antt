pub mod Fitting
pub mod Bytes
pub mod Stored
pub mod Compared
pub mod Taking
pub mod Unique
