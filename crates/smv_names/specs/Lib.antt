pub mod NumberSets
pub mod Duplicates
pub mod Modules
pub mod Recursion
pub mod Rows
pub mod Unknown
pub mod NamesFault
