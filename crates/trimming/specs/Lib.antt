pub mod Draining
pub mod Graphs
pub mod Linking
pub mod Links
pub mod Lists
pub mod Trimming
pub mod TrimmingLemmas
