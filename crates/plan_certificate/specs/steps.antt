-- What only proofs and private contracts need.
pub mod GoalTexts
pub mod ItemPlans
pub mod Narrow
pub mod Numbers
pub mod Numerals
pub mod Places
pub mod States
