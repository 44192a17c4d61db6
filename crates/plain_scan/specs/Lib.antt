pub mod Sets
pub mod Rows
pub mod Sorting
pub mod Between
pub mod Outlines
pub mod Hulls
pub mod Scanning
pub mod Leaving
pub mod Outlined
pub mod steps
-- Passed on: what this crate's contracts are told in.
pub use Rattle.fm_projection.specs.Alone
pub use Rattle.fm_projection.specs.declared.stop.FmStop
