pub mod ChangingLemmas
pub mod HeldLemmas
pub mod RootLineLemmas
