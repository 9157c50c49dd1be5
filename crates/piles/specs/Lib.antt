pub mod PileFaults
pub mod PileKinds
pub mod Piles
pub mod SetDockets
pub mod PilesKept
