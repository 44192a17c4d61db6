pub mod Orders
pub mod WalkedVisits
pub mod Lengths
pub mod Shuffles
pub mod TreeRuns
pub mod RunResults
