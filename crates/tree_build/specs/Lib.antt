pub mod Changing
pub mod Cuts
pub mod Rebuilding
pub mod Refusals
pub mod Shapes
pub mod StrangeShelves
pub mod internal
