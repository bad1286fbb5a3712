pub mod Counting
pub mod Finding
pub mod Signs
pub mod Gathering
pub mod Joined
pub mod Pieces
pub mod Borders
pub mod Unique
