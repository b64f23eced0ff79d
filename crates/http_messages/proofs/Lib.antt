pub mod shared
pub mod HeadLemmas
pub mod ResponseLemmas
pub mod TargetLemmas
