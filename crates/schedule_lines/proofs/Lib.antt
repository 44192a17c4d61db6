pub mod ReadLists
pub mod RowParts
pub mod NumeralLemmas
pub mod PrintedLines
pub mod ReadLines
