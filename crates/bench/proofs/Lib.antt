pub mod Bench
pub mod Neighbours
pub mod Packets
pub mod Writers
pub mod FirstBytes
pub mod Listed
