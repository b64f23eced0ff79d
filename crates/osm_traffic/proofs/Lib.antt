pub mod MapLemmas
pub mod OutputLemmas
pub mod PieceLemmas
pub mod ChunkLemmas
pub mod DeedLemmas
pub mod RunLemmas
pub mod PastLemmas
pub mod StandLemmas
