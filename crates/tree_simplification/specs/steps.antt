-- What only proofs and private contracts need.
pub mod Joined
pub mod Context
pub mod ContextView
pub mod Rounded
pub mod Inlined
pub mod Strided
pub mod Trimmed
