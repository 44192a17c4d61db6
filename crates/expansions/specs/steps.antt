-- What only proofs and private contracts need.
pub mod Listing
pub mod Marks
pub mod Passing
