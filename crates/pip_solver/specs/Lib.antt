pub mod Node
pub mod Promises
pub mod Solving
pub mod Minimum
pub mod steps
-- Passed on: what this crate's contracts are told in.
pub use Rattle.checked_tableau.specs.Emptiness
pub use Rattle.checked_tableau.specs.Leaves
pub use Rattle.checked_tableau.specs.Nodes
pub use Rattle.checked_tableau.specs.declared.problem.Problem
