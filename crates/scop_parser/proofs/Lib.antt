pub mod UniquePrograms
pub mod Fronts
pub mod Refusals
pub mod Worth
pub mod TokenFeed
pub mod SpelledNames
pub mod UnreservedNames
pub mod IteratorNames
