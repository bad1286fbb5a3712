pub mod Steps
pub mod Digits
pub mod Spelling
pub mod Examples
pub mod Back
pub mod Unique
