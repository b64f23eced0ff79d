mod BelowLemmas
mod OutcomeLemmas
mod TakenLemmas
mod ReadLemmas
mod TopLemmas
mod UnderLemmas
