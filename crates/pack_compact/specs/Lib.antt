pub mod Compacting
pub mod Faults
pub mod internal
