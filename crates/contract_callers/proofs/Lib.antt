pub mod LexedTexts
pub mod Quotients
pub mod NodeSteps
pub mod Tableaus
pub mod Turns
pub mod Evens
