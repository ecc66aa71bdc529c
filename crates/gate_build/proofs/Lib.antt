pub mod OrderLemmas
pub mod MeaningLemmas
pub mod StateLemmas
pub mod SharingLemmas
pub mod ExtensionLemmas
pub mod RunLemmas
pub mod Examples
