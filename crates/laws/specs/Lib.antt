pub mod Accepted
pub mod Promise
pub mod Walking
