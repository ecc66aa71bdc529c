pub mod NameLemmas
pub mod TargetLemmas
pub mod Examples
