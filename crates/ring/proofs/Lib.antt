pub mod Bits
pub mod Clean
pub mod Leading
pub mod Marked
pub mod Meaning
pub mod Runs
pub mod Unique
pub mod Words
