pub mod Dockets
pub mod Tallies
