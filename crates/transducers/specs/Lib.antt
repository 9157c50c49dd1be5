pub mod Meaning
pub mod Stacking
pub mod Turning
pub mod Held
pub mod Stacks
pub mod Turned
