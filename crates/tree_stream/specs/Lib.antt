pub mod Faults
pub mod ReadBack
pub mod Streams
pub mod internal
