pub mod Cursors
pub mod Readers
