mod Offsets
mod Shifts
mod Turns
pub mod Chains
mod WalkSteps
mod Runs
mod Checks
mod FittingReads
mod Kernels
mod StatementSearch
mod Numbering
pub mod OutsideAccesses
