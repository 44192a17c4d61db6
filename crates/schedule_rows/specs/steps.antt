-- What only proofs need.
pub mod Moves
