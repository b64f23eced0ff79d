pub mod ChangeLemmas
pub mod ReadingLemmas
pub mod RootLemmas
