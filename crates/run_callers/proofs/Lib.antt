pub mod SmallPlans
pub mod ThreeTiles
pub mod LastPlaces
