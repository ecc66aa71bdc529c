pub mod ListLemmas
pub mod AssignLemmas
pub mod ImposeLemmas
pub mod Examples
