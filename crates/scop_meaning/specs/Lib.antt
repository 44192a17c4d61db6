pub mod Conditions
pub mod Instances
pub mod LastWrites
pub mod Outside
pub mod Rows
pub mod steps
