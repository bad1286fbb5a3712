pub mod Listed
pub mod Bounds
pub mod Bodies
pub mod Listing
pub mod Spelling
pub mod Measuring
pub mod Unique
pub mod Said
