-- What only proofs and private contracts need.
pub mod Claims
pub mod Joining
