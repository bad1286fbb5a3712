pub mod Figures
pub mod Faults
pub mod Admitted
pub mod ByKind
pub mod Same
pub mod AtClient
