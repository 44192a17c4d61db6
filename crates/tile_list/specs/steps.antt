-- What only proofs and private contracts need.
pub mod Keys
pub mod Cutting
pub mod Offsets
pub mod Placing
pub mod Stretching
