pub mod Drafts
pub mod Joined
pub mod Unique
