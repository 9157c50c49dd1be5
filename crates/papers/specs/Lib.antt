pub mod Kind
pub mod First
pub mod Faults
pub mod Bytes
pub mod Blocks
pub mod Block
pub mod Paper
pub mod Form
