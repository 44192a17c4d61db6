-- What only proofs and private contracts need.
pub mod Giving
pub mod Nodes
pub mod Numbers
pub mod Pieces
pub mod Serving
pub mod Shadows
pub mod Shape
pub mod Weaker
