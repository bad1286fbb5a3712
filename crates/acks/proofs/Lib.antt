pub mod Going
pub mod Back
pub mod Unique
