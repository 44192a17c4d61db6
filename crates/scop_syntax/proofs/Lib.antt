pub mod Common
pub mod Views
pub mod Nodes
pub mod Members
pub mod Order
pub mod Falls
pub mod Loops
pub mod Statements
pub mod Weights
pub mod Memory
pub mod Writers
pub mod Acts
pub mod Failures
pub mod Sizes
pub mod Fits
pub mod Kernels
pub mod Numbers
pub mod Bounds
pub mod Values
pub mod Widths
pub mod Conflicts
pub mod Covers
pub mod ReducedArrays
pub mod WrappedSums
pub mod FallingLoop
pub mod NarrowValues
pub mod Precedence
pub mod SortedLists
mod Commutation
mod SameContents
mod CoverOrders
pub mod GatheredStatements
pub mod Heads
pub mod Marked
pub mod NamedArrays
