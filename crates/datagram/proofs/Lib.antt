pub mod Inside
pub mod Unseen
pub mod Unique
pub mod Said
