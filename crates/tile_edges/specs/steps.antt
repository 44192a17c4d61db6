-- What only proofs and private contracts need.
pub mod Passing
pub mod Traces
pub mod Gains
pub mod Touches
pub mod Rows
pub mod Finding
pub mod Walks
pub mod Ahead
