-- What only proofs and private contracts need.
pub mod Alone
pub mod Rows
