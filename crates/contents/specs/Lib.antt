pub mod Parts
pub mod Content
pub mod Taken
pub mod Again
