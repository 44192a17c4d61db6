pub mod Parts
pub mod Runs
pub mod Gives
pub mod Values
pub mod Stops
pub mod InPlace
-- Passed on: what this crate's contracts are told in.
pub use Rattle.wide_math.specs.Affine
pub use Rattle.wide_math.specs.Lexicographic
pub use Rattle.wide_math.specs.Checked
pub use Rattle.wide_math.specs.Gives as WideGives
pub use Rattle.wide_math.specs.declared.Op
pub use Rattle.wide_math.specs.declared.Wide
