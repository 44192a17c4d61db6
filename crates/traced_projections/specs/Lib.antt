pub mod Tracing
pub mod Eliminating
pub mod Projections
