pub mod Numbers
pub mod Widths
pub mod Words
pub mod Made
pub mod Meaning
pub mod Arithmetic
pub mod Places
