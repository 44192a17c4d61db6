-- What only proofs and private contracts need.
pub mod Laid
pub mod Running
