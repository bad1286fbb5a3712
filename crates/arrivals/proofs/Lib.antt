pub mod Expected
pub mod Checked
pub mod Trusted
pub mod Carried
pub mod Acknowledged
pub mod Borders
