pub mod Marks
pub mod Ring
pub mod Parts
pub mod Found
