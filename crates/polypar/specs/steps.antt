-- What only private contracts need.
pub mod Courses
pub mod Promises
