pub mod NodeLemmas
pub mod HeightLemmas
pub mod MovedLemmas
pub mod ProgramLemmas
pub mod FaultLemmas
pub mod HeightLaw
