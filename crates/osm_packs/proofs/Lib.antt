mod BuiltLemmas
mod PackLemmas
mod PublishedNodes
mod QueryLemmas
