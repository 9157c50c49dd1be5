pub mod Feeds
pub mod Only
