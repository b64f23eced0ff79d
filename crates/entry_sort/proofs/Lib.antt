pub mod OnceLemmas
pub mod KeyedLemmas
pub mod PushLemmas
pub mod FileLemmas
pub mod GatherLemmas
pub mod GiveLemmas
pub mod ScanLemmas
pub mod NameLemmas
pub mod ReadEndLemmas
pub mod RepeatLemmas
pub mod SetLemmas
pub mod FinalLemmas
mod RiseLemmas
