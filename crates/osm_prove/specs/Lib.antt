pub mod Budgets
pub mod Proofs
pub mod Proved
pub mod Refusals
