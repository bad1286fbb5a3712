pub mod Fitting
pub mod Clashing
pub mod Unique
