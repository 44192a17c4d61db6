-- What only proofs and private contracts need.
pub mod Reading
pub mod View
