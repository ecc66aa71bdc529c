pub mod FileLookup
pub mod KnownBytes
pub mod WrittenText
