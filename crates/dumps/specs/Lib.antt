pub mod Digits
pub mod Dump
pub mod Borders
