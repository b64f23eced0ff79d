-- Lemmas for the crates above.
pub mod OneLightPublication
pub mod LightEntryBytes
pub mod LightNodeSorts
pub mod SomeLightPublication
pub mod OneLightHeld
