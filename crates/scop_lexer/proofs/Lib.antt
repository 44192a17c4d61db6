pub mod ByteLemmas
pub mod ConstantLemmas
pub mod GapLemmas
pub mod Rooms
pub mod Splits
pub mod SignLemmas
pub mod NameLemmas
