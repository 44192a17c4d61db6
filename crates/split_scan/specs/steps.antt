pub mod Bounding
pub mod Copies
pub mod Picking
pub mod Frames
pub mod Narrowing
pub mod Ordering
pub mod Parts
pub mod Questions
