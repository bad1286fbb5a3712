pub mod Mirror
pub mod Client
pub mod Pairs
