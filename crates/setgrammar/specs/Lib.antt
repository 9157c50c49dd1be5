pub mod Faults
pub mod Grammar
pub mod Items
pub mod Law
pub mod Lines
pub mod Place
