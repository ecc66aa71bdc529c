pub mod NameLemmas
pub mod AssignedLemmas
pub mod NextLaw
