pub mod Bits
pub mod Words
pub mod Runs
pub mod Parts
