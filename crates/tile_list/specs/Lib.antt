pub mod Tiles
pub mod TilesView
pub mod Counting
pub mod Stretches
pub mod steps
