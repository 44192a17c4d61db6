pub mod Firsts
pub mod KeptMarks
pub mod PassedPlaces
pub mod ListedEntries
