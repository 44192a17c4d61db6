pub mod Bytes
pub mod Faults
pub mod Memory
pub mod Reads
pub mod Streams
pub mod Writes
