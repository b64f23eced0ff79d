mod AddLemmas
mod CompactLemmas
mod FaultLemmas
mod HeadLemmas
