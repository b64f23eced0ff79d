pub mod shared
mod BudgetLemmas
mod FormLemmas
mod NodeCounts
mod NodeLengths
mod Proving
mod Refusals
