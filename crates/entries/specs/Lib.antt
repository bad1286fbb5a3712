pub mod Entry
pub mod Fitting
