pub mod Fields
pub mod Reading
pub mod Sound
pub mod Said
