pub mod Standing
pub mod Found
pub mod Back
pub mod Readers
pub mod Exact
pub mod Measured
pub mod Pieces
pub mod Borders
