pub mod Stated
pub mod Command
