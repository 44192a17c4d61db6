pub mod Words
pub mod Numbers
pub mod Heads
pub mod Sheets
pub mod Entries
pub mod Naming
