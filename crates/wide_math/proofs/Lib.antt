pub mod Rounding
pub mod Steps
pub mod CommonDivisor
pub mod Narrow
-- Passed on: lemmas about what this crate passes on.
pub use Rattle.whole_numbers.proofs.Contents
pub use Rattle.whole_numbers.proofs.Dot
pub use Rattle.whole_numbers.proofs.Entries
pub use Rattle.whole_numbers.proofs.Lexicographic
pub use Rattle.whole_numbers.proofs.Lists
pub use Rattle.whole_numbers.proofs.Lowest
pub use Rattle.whole_numbers.proofs.Ring
pub use Rattle.whole_numbers.proofs.Values
