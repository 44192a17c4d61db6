pub mod Formula
pub mod Forms
pub mod Faults
pub mod Values
pub mod Resolving
pub mod Scope
pub mod steps
