pub mod Deciding
pub mod HavingMeaning
pub mod shared
