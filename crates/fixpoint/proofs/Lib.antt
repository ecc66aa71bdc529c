pub mod Laws
pub mod TableLemmas
