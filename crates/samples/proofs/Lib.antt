pub mod Sampled
pub mod TrimmedA
