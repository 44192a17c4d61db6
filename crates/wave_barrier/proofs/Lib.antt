pub mod Counters
pub mod NoReads
pub mod Openings
pub mod Releases
pub mod Finishes
