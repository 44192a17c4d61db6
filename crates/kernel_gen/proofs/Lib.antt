mod Chains
mod Counts
mod Forms
mod InsideAccesses
mod Products
mod Sizes
mod Sweeps
