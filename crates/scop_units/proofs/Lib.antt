pub mod ListElements
mod OrderedNames
pub mod Parts
pub mod InnerNames
pub mod Spans
pub mod FaultlessUnits
pub mod LoopHeads
pub mod NamedEntries
pub mod FaultlessItems
pub mod FaultlessKernels
pub mod FreshNames
pub mod Names
pub mod SpelledNames
