pub mod Budgets
pub mod Matching
pub mod Matchers
pub mod Verdicts
pub mod VerdictTexts
pub mod Telling
pub mod internal
