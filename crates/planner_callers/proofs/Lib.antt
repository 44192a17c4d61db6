pub mod NoSources
pub mod OneAccess
pub mod OneRead
