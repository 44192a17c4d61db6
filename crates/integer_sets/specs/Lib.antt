pub mod Constraints
pub mod Points
pub mod Runs
pub mod Stops
pub mod Scanned
-- Passed on: what this crate's contracts are told in.
pub use Rattle.affine_forms.specs.Checked
pub use Rattle.affine_forms.specs.Gives as FormGives
pub use Rattle.affine_forms.specs.Op
pub use Rattle.affine_forms.specs.Parts
pub use Rattle.affine_forms.specs.Runs as FormRuns
pub use Rattle.affine_forms.specs.Wide
pub use Rattle.affine_forms.specs.declared.stop.FormStop
