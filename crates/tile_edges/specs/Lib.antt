pub mod Waiting
pub mod Edges
pub mod Counting
pub mod steps
