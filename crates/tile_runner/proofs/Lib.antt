pub mod JoinsNext
pub mod Laid
pub mod NextCopies
pub mod Passes
pub mod StrandsNext
