pub mod shared
pub mod BudgetLemmas
pub mod Fronts
pub mod Judgements
pub mod OneVerdict
pub mod Reports
pub mod ToldLemmas
