-- What only proofs need.
pub mod Iterators
