pub mod Grammar
pub mod Readers
pub mod Low
pub mod Answer
pub mod Printable
