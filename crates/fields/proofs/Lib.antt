pub mod Going
pub mod Unique
pub mod Said
