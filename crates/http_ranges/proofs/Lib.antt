mod HeadLemmas
mod PassingLemmas
mod SpanLemmas
