pub mod Faults
pub mod Heads
pub mod Parts
pub mod Said
