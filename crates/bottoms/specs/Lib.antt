pub mod Catalogue
pub mod CatalogueMade
pub mod Made
pub mod Multiplying
pub mod Tiles
pub mod Multipliers
pub mod Greatest
pub mod ListValid
