pub mod Showing
pub mod internal
