pub mod FaultLemmas
pub mod NamesLemmas
pub mod ModuleNumberLemmas
pub mod NameSetLemmas
pub mod SymbolLemmas
pub mod WrittenLemmas
pub mod ScopeLemmas
pub mod DenotationLemmas
pub mod InstanceTableLemmas
pub mod SlotLemmas
pub mod ValuationLemmas
pub mod NumberLemmas
pub mod OrderLemmas
pub mod CountLemmas
pub mod MentionLemmas
pub mod FirstFault
pub mod MetItemLemmas
pub mod ItemIndexLemmas
pub mod RunLemmas
pub mod RunLaw
pub mod BindingLemmas
pub mod StateLemmas
mod Examples
pub mod MemberLemmas
pub mod ItemLemmas
pub mod DepthLaw
pub mod AgreementLaw
mod ItemExamples
