-- What only proofs and private contracts need.
pub mod Same
pub mod Codes
pub mod Forms
