pub mod Additions
pub mod Overs
pub mod Runs
