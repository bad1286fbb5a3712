pub mod Ring
pub mod Sound
pub mod None
pub mod Same
pub mod Window
pub mod Taking
pub mod Unique
