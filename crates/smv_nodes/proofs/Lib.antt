pub mod OwnLemmas
pub mod CountLemmas
