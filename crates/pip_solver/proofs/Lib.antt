pub mod CopiedLists
pub mod LineParts
pub mod NodeMoves
pub mod QuestionRuns
pub mod PosedRows
pub mod Decisions
pub mod PartDivisions
pub mod Questions
pub mod NodeSteps
pub mod LeafTrees
pub mod FrameStack
pub mod FrameSteps
pub mod ProblemRuns
pub mod LeafPoints
pub mod Systems
-- Passed on: lemmas about what this crate passes on.
pub use Rattle.checked_tableau.proofs.Emptiness as EmptinessLaws
pub use Rattle.checked_tableau.proofs.KeptSolutions
pub use Rattle.checked_tableau.proofs.QuestionAnswers
pub use Rattle.checked_tableau.proofs.Trees
pub use Rattle.checked_tableau.proofs.BoundSigns
pub use Rattle.checked_tableau.proofs.TurnNumbers
