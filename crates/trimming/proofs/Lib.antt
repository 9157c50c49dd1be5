pub mod Cutting
pub mod Draining
pub mod Linking
pub mod Sorting
pub mod Thriving
pub mod Times
