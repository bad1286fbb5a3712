pub mod Spelled
pub mod Measure
pub mod Said
