pub mod Plans
pub mod Parted
pub mod internal
