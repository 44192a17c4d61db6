pub mod Echelon
pub mod Narrowing
pub mod Sizes
