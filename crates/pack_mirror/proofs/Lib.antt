mod Refusals
mod RootLemmas
mod UsedLemmas
