pub mod Fractions
pub mod Elimination
pub mod Farkas
