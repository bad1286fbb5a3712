pub mod Listing
pub mod Slices
pub mod Spelling
pub mod Unique
