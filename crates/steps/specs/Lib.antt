pub mod Step
pub mod Past
pub mod Gate
