pub mod Budgets
pub mod Faults
pub mod Listings
