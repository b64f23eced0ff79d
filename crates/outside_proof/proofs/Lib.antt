mod BudgetLemmas
mod Evaluating
mod FaultLemmas
mod NodeCounts
mod NodeLengths
mod PartLengths
mod Proving
