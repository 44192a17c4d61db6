pub mod Lines
pub mod Table
pub mod steps
-- Passed on: what this crate's contracts are told in.
pub use Rattle.lexmin_runs.specs.Nodes
pub use Rattle.lexmin_runs.specs.Solutions
pub use Rattle.tableau_rows.specs.Moves
pub use Rattle.tableau_rows.specs.Problem
pub use Rattle.tableau_rows.specs.Rows
pub use Rattle.tableau_rows.specs.Run
pub use Rattle.lexmin_runs.specs.Emptiness
pub use Rattle.lexmin_runs.specs.Leaves
