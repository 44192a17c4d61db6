pub mod Kernel
pub mod Table
pub mod Machine
pub mod Promises
pub mod Claims
pub mod Turns
