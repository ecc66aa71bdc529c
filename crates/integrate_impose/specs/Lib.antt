pub mod Lists
pub mod Guard
pub mod TypeValues
pub mod VariableTypes
pub mod Impose
pub mod Answers
