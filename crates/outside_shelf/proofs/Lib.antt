mod BroughtLemmas
mod CopyLemmas
mod PartLemmas
mod StockedLemmas
mod TogetherLemmas
