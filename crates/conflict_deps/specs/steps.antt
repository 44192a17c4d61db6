-- What only proofs and private contracts need.
pub mod HeldPairs
pub mod View
