use Rattle.std.proofs.Common.{refl}
use Rattle.clap.proofs.OnLiterals.{clap_on_literals}
use Rattle.command_line.proofs.BudgetsRead.{greatest_budget, no_budget}
use Rattle.command_line.proofs.laws.budgets_are_numbers.Goals as goal

pub returns-clause-serve : goal.returns-clause-serve
unfolding clap_on_literals
returns-clause-serve c = λ file. (λ program. (refl, (refl, no_budget)), λ program. (refl, (refl, greatest_budget)), λ program. refl)

pub returns-clause-check : goal.returns-clause-check
unfolding clap_on_literals
returns-clause-check c = λ root query answer proof. (λ program. (refl, (refl, no_budget)), λ program. (refl, (refl, greatest_budget)), λ program. refl)

pub returns-clause-fetch : goal.returns-clause-fetch
unfolding clap_on_literals
returns-clause-fetch c = λ root mirror query. (λ program. (refl, (refl, no_budget)), λ program. (refl, (refl, greatest_budget)), λ program. refl)

pub returns-clause-relay : goal.returns-clause-relay
unfolding clap_on_literals
returns-clause-relay c = λ root mirror. (λ program. (refl, (refl, no_budget)), λ program. (refl, (refl, greatest_budget)), λ program. refl)

pub returns-clause-query : goal.returns-clause-query
unfolding clap_on_literals
returns-clause-query c = λ root place query. (λ program. (refl, (refl, no_budget)), λ program. (refl, (refl, greatest_budget)), λ program. refl)
