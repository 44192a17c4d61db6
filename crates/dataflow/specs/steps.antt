-- What only proofs and private contracts need.
pub mod LeafSteps
pub mod Steps
pub mod Wanted
