pub mod IntervalLemmas
pub mod TableLemmas
pub mod InstanceLemmas
pub mod ProductLemmas
pub mod ValueLemmas
pub mod PartLemmas
pub mod KeptLemmas
pub mod SoundLemmas
pub mod TypeLemmas
pub mod InnerLemmas
pub mod ItemLemmas
pub mod WholeLemmas
mod Examples
