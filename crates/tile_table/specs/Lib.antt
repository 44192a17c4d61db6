pub mod Codes
pub mod Points
pub mod Numbers
pub mod Lanes
pub mod Tables
pub mod Desks
pub mod Joins
pub mod steps
-- Passed on: what this crate's contracts are told in.
pub use Rattle.scop_meaning.specs.Instances
