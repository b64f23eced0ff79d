pub mod FetchedLemmas
