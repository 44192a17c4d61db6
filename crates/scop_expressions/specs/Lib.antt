pub mod Tree
pub mod Grammar
pub mod Machine
pub mod Promises
pub mod Stepping
pub mod Gives
pub mod steps
-- Passed on: the tokens.
pub use Rattle.scop_tokens.specs.declared.Assign
pub use Rattle.scop_tokens.specs.declared.Base
pub use Rattle.scop_tokens.specs.declared.Count
pub use Rattle.scop_tokens.specs.declared.Op
pub use Rattle.scop_tokens.specs.declared.Outside
pub use Rattle.scop_tokens.specs.declared.Suffix
pub use Rattle.scop_tokens.specs.declared.Token
pub use Rattle.scop_tokens.specs.declared.Width
