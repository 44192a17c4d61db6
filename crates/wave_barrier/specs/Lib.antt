pub mod Opens
pub mod Releases
pub mod Finishes
