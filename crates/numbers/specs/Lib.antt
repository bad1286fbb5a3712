pub mod Numbers
pub mod Sound
pub mod Nearest
pub mod Borders
pub mod Said
