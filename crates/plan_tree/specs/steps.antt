-- What only proofs and private contracts need.
pub mod Parting
pub mod Scanning
