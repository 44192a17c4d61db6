pub mod Bytes
pub mod Words
pub mod Constants
pub mod Signs
pub mod Gaps
pub mod Stands
pub mod Tokens
pub mod Lines
-- Passed on: the kinds of tokens.
pub use Rattle.scop_tokens.specs.declared.Token as Kind
