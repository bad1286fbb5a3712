pub mod Conn
pub mod Small
