-- What only proofs and private contracts need.
pub mod Chain
pub mod Counting
pub mod Examples
pub mod Going
pub mod Passing
pub mod Placing
pub mod Putting
pub mod Scanning
pub mod Stepping
