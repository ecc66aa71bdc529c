pub mod LiveLemmas
pub mod SoundLemmas
pub mod StateLemmas
pub mod StandingLemmas
