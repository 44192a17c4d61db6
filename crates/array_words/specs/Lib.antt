pub mod Loads
pub mod Stores
pub mod Seats
pub mod Closing
