pub mod shared
pub mod LineLemmas
pub mod FineLemmas
pub mod ManifestLemmas
pub mod RangeSteps
