pub mod SmallRows
pub mod Halves
pub mod Worked
