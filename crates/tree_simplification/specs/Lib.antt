pub mod Simplified
pub mod steps
