-- What only proofs and private contracts need.
pub mod Sizes
pub mod Listed
pub mod Facts
