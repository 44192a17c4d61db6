pub mod Checked
pub mod Gives
-- Passed on: what the contracts of the crates above are told in.
pub use Rattle.whole_numbers.specs.Affine
pub use Rattle.whole_numbers.specs.Content
pub use Rattle.whole_numbers.specs.Fits
pub use Rattle.whole_numbers.specs.Floor
pub use Rattle.whole_numbers.specs.Lexicographic
pub use Rattle.whole_numbers.specs.Lists
