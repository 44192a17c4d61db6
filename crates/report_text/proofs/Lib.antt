pub mod AppendedTexts
pub mod DepsLemmas
pub mod EvenText
pub mod Lines
pub mod ScheduleLemmas
pub mod SourceTexts
pub mod TellableQuasts
pub mod VariableNames
