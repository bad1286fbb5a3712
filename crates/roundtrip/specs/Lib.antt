pub mod Readable
pub mod Borders
