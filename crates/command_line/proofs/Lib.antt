mod BuiltCommands
mod ParseResults
mod Getters
mod TakenWords
pub mod NumberRows
pub mod NumberRanges
