pub mod KnownLemmas
pub mod ChangeLemmas
pub mod ModuleNameLemmas
pub mod LookupLemmas
pub mod FaultLemmas
pub mod TypeLemmas
pub mod SameNamesLemmas
mod Examples
