pub mod Tilings
pub mod Places
pub mod ScanSets
pub mod steps
-- Passed on: what this crate's contracts are told in.
pub use Rattle.iteration_domains.specs.Held
pub use Rattle.schedule_rows.specs.Bands
pub use Rattle.schedule_rows.specs.Dependences
pub use Rattle.schedule_rows.specs.Items
pub use Rattle.schedule_rows.specs.Next
pub use Rattle.schedule_rows.specs.Outcomes
pub use Rattle.schedule_rows.specs.Schedule
pub use Rattle.schedule_rows.specs.Sized
