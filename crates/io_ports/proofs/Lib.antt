pub mod CalmCalls
pub mod MemoryReads
pub mod PutTexts
mod SourceReads
