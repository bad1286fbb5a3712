pub mod Header
pub mod Split
pub mod Inside
pub mod Unseen
pub mod Said
