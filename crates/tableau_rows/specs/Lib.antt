pub mod Rows
pub mod Moves
pub mod Solutions
pub mod Problem
pub mod Run
