pub mod Sender
pub mod Taken
pub mod Unique
