pub mod BaseSoFar
pub mod Counted
pub mod LeastSoFar
pub mod Parts
pub mod PlanLaws
