pub mod Rows
pub mod Constraints
pub mod Model
pub mod Sizes
pub mod Instances
pub mod Standing
pub mod Path
pub mod Dependence
pub mod Restrictions
pub mod Related
pub mod Held
pub mod Outside
pub mod steps
-- Passed on: what this crate's contracts are told in.
pub use Rattle.integer_sets.specs.Parts
