pub mod PrintingLemmas
pub mod SpanLemmas
