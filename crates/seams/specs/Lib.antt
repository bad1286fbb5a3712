pub mod Seam
pub mod Parts
