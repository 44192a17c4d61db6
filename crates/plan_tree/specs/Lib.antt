pub mod Schedules
pub mod steps
-- Passed on: what this crate's contracts are told in.
pub use Rattle.plain_scan.specs.FmStop
pub use Rattle.planned_trees.specs.Executions
pub use Rattle.planned_trees.specs.Trees
pub use Rattle.tile_skew.specs.Tilings
