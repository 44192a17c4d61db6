-- What only proofs and private contracts need.
pub mod Parts
pub mod Pieces
pub mod ScheduleLines
