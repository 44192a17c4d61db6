pub mod RowScans
pub mod CutLines
pub mod Tables
pub mod Beginnings
pub mod Pivots
pub mod MultipliedRows
-- Passed on: lemmas about what this crate passes on.
pub use Rattle.lexmin_runs.proofs.AddedParameters
pub use Rattle.lexmin_runs.proofs.KeptSolutions
pub use Rattle.tableau_rows.proofs.Lines
pub use Rattle.lexmin_runs.proofs.BoundSigns
pub use Rattle.lexmin_runs.proofs.Emptiness
pub use Rattle.lexmin_runs.proofs.QuestionAnswers
pub use Rattle.lexmin_runs.proofs.SingleLeaf
pub use Rattle.lexmin_runs.proofs.Steps
pub use Rattle.lexmin_runs.proofs.Trees
pub use Rattle.lexmin_runs.proofs.TurnNumbers
