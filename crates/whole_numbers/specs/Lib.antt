pub mod Fits
pub mod Division
pub mod Floor
pub mod Divisors
pub mod Lists
pub mod Affine
pub mod Lexicographic
pub mod Content
