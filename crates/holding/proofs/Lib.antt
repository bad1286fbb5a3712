pub mod Offering
pub mod Handing
pub mod Meaning
pub mod Unique
