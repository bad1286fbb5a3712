pub mod History
pub mod Borders
pub mod Found
