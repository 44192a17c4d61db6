pub mod Arithmetic
pub mod Meaning
pub mod Tokens
pub mod Limits
pub mod Examples
