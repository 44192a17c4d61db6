pub mod Conflicts
pub mod Pairs
pub mod Examples
pub mod Parts
pub mod steps
