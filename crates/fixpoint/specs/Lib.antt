pub mod Fixpoints
pub mod OptionOrder
