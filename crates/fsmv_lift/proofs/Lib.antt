pub mod Examples
pub mod IntroducedLemmas
pub mod LiftingLemmas
