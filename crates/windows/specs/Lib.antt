pub mod History
pub mod Borders
