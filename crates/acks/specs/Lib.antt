pub mod Ack
pub mod Parts
