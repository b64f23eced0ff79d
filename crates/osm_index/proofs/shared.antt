-- Lemmas for the crates above.
pub mod ChangeLaws
pub mod OneHeld
