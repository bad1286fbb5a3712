pub mod First
pub mod Said
