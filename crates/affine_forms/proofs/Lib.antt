pub mod Steps
pub mod Exact
pub mod Values
pub mod RunStops
-- Passed on: lemmas about what this crate passes on.
pub use Rattle.wide_math.proofs.Lexicographic
pub use Rattle.wide_math.proofs.Steps as CheckedSteps
