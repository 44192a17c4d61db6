pub mod Questions
pub mod Searching
pub mod Alike
pub mod steps
-- Passed on: what this crate's contracts are told in.
pub use Rattle.pip_solver.specs.declared.stop.Stop
pub use Rattle.pluto_systems.specs.Stuck
pub use Rattle.schedule_rows.specs.Items
pub use Rattle.schedule_rows.specs.Next
pub use Rattle.schedule_rows.specs.Outcomes
pub use Rattle.schedule_rows.specs.Schedule
