pub mod Ways
pub mod Shifts
pub mod Leaves
pub mod Joins
pub mod Counts
pub mod Sizes
pub mod Steps
pub mod Limits
