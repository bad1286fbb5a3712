pub mod Halves
pub mod Examples
pub mod Back
pub mod Meaning
pub mod Spaced
pub mod Unique
