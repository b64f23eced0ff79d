-- Lemmas for the crates above.
pub mod FineOrder
pub mod FineKeyLaws
pub mod FineLaws
pub mod OneLightManifest
