pub mod Adding
pub mod CompactFaults
pub mod Compacting
pub mod Faults
pub mod Heads
pub mod internal
