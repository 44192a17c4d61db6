pub mod Firsts
pub mod OneStop
pub mod OneAnswer
pub mod QuestionStops
pub mod Emptiness
pub mod RestrictedDependences
pub mod Counts
pub mod GoodStates
pub mod NextStates
pub mod RunSteps
pub mod CutDependences
pub mod ReadParts
pub mod ValueOrder
-- Passed on: lemmas about what this crate passes on.
pub use Rattle.schedule_rows.proofs.Determinism
pub use Rattle.schedule_rows.proofs.ModelLoops
