pub mod Programs
pub mod Cases
pub mod Summary
pub mod Totals
