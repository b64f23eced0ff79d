pub mod ChangeFiles
pub mod ChangeSources
pub mod internal
