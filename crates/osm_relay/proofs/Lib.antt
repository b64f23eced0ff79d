pub mod DialledLemmas
pub mod FindingLemmas
pub mod HeardLemmas
pub mod HonestLemmas
pub mod PromiseLemmas
pub mod RelayingLemmas
pub mod StageLemmas
pub mod StarvedText
