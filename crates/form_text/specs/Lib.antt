pub mod Numerals
pub mod Forms
pub mod Names
pub mod Reading
pub mod View
