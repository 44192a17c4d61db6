-- What only proofs and private contracts need.
pub mod Acts
pub mod Copied
pub mod Desks
pub mod Joins
