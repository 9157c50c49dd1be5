pub mod Lines
pub mod Excerpts
