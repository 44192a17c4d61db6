pub mod Unknowns
pub mod Claims
pub mod Matching
pub mod Run
pub mod Gives
pub mod Meaning
pub mod steps
-- Passed on: what this crate's contracts are told in.
pub use Rattle.fm_projection.specs.declared.stop.FmStop
pub use Rattle.pip_solver.specs.Minimum
