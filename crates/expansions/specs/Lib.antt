pub mod Expansions
pub mod steps
