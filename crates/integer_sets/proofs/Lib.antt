pub mod PointLaws
pub mod PointOrder
pub mod RunStops
-- Passed on: lemmas about what this crate passes on.
pub use Rattle.affine_forms.proofs.CheckedSteps
pub use Rattle.affine_forms.proofs.Steps as FormSteps
