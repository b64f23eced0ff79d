pub mod shared
pub mod LightPackedLemmas
pub mod LightSortedLemmas
pub mod LightListingLemmas
pub mod LightLineLemmas
pub mod LightPutLemmas
