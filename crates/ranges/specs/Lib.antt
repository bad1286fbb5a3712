pub mod Ranges
pub mod Walk
pub mod Listed
