pub mod Nearest
pub mod Lengths
pub mod Laws
pub mod Meaning
pub mod Refusals
pub mod Borders
pub mod Unique
pub mod Said
