pub mod Literals
pub mod Clauses
pub mod Table
pub mod Steps
