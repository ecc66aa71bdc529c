pub mod NumberSetLemmas
pub mod RowsLemmas
pub mod KnownLemmas
pub mod SizeLemmas
pub mod KnownLaw
