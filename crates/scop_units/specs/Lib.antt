pub mod Words
pub mod Scopes
pub mod Loops
pub mod Units
pub mod Judging
pub mod Programs
pub mod Names
pub mod View
-- Passed on: texts.
pub use Rattle.scop_lexer.specs.Bytes
