pub mod shared
pub mod SplitTexts
