-- What only proofs and private contracts need.
pub mod Cuts
pub mod Frames
pub mod Promises
pub mod Steps
