pub mod Ranges
pub mod Choices
pub mod Nexts
pub mod Rules
pub mod Assigned
pub mod Shape
