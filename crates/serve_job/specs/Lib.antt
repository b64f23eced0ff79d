pub mod Jobs
pub mod internal
