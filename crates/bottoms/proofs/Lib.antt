pub mod Balance
pub mod LowestTerms
