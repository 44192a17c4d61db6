pub mod DepsExamples
pub mod DepsReading
pub mod DepsText
pub mod KeptText
pub mod TilesText
pub mod ScheduleExamples
pub mod ScheduleText
pub mod StatusText
pub mod UncertifiedText
pub mod UnexpandedText
pub mod steps
-- Passed on: what this crate's contracts are told in.
pub use Rattle.schedule_rows.specs.Items
