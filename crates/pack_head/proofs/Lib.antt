pub mod ExtendLemmas
pub mod HeadLemmas
pub mod LackLemmas
pub mod LawLemmas
pub mod LeftLemmas
pub mod NumberLemmas
pub mod PieceLemmas
pub mod StepLemmas
