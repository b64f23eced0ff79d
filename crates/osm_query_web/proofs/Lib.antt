pub mod SpanLemmas
pub mod TableLemmas
pub mod PieceLemmas
pub mod WantedLemmas
pub mod ExplainLemmas
pub mod CallResultLemmas
pub mod HandedLemmas
