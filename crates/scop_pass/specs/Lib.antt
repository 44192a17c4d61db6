pub mod Machine
pub mod Passing
