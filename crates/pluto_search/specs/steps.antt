-- What only proofs and private contracts need.
pub mod Good
pub mod Shared
pub mod Sizes
pub mod StepParts
pub mod Steps
pub mod Stopping
