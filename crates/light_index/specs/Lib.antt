pub mod LightPublications
pub mod LightLines
pub mod LightEntryLists
pub mod LightHoldings
pub mod LightSnapshots
pub mod internal
