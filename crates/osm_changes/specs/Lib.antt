pub mod AnnouncedChanges
pub mod internal
