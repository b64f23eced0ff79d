-- Lemmas that crates above cite too.
pub mod ListingLaws
pub mod NeededNodes
pub mod NodeOrder
pub mod PartNodes
pub mod ProofLaws
pub mod QueryWorks
