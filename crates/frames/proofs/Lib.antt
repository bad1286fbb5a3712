pub mod Codes
pub mod Going
pub mod Order
pub mod Sound
pub mod Unique
pub mod Said
