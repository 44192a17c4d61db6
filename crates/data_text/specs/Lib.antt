pub mod Cases
pub mod ArrayText
pub mod Described
pub mod Written
pub mod steps
-- Passed on: what this crate's contracts are told in.
pub use Rattle.data_lines.specs.Sheets
pub use Rattle.data_lines.specs.declared.refusal.DataRefusal
