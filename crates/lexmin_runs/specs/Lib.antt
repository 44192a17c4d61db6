pub mod Nodes
pub mod Leaves
pub mod Solutions
pub mod Emptiness
