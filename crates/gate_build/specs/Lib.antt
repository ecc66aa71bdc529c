pub mod Circuits
pub mod Meaning
pub mod Numbering
pub mod GatesState
