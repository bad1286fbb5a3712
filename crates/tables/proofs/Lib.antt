pub mod Long
pub mod Tables
pub mod Unique
pub mod Unopened
pub mod Within
