-- Lemmas for the crates above.
pub mod ByteLaws
pub mod FieldLemmas
pub mod MapLemmas
pub mod NodeLaws
pub mod OutcomeLaws
pub mod PartOrder
pub mod PieceLaws
pub mod PieceLemmas
pub mod Results
pub mod StockLaws
pub mod TreeKeys
pub mod TreeLaws
pub mod TreeLemmas
pub mod TreeParts
pub mod TreeSame
pub mod WordOrder
