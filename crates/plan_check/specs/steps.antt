-- What only proofs and private contracts need.
pub mod Walks
pub mod Stages
