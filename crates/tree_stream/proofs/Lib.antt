pub mod CutLemmas
pub mod FinishLemmas
pub mod HoldLemmas
pub mod OkLemmas
pub mod OpenLemmas
pub mod StreamLemmas
pub mod WithinLemmas
