use Rattle.std.proofs.Common.{◌≤◌, ◌^◌, ℕ, subst, sym}
use Rattle.pack_files.proofs.FurtherLemmas.{further_long, placed_beside, root_placed}
use Rattle.pack_files.proofs.OverLemmas.{file_over}
use Rattle.pack_files.proofs.laws.further_law.Goals as goal

pub returns-clause-nodes : goal.returns-clause-nodes
returns-clause-nodes c = λ contents old olds nodes file root short are is. placed_beside contents old olds nodes file root short are is

pub returns-clause-root : goal.returns-clause-root
returns-clause-root c = λ number old nodes file root few is. root_placed number old file root nodes is few

pub returns-clause-short : goal.returns-clause-short
returns-clause-short c = λ number old nodes file root is. subst (λ (n : ℕ). n ≤ 2 ^ 48) (sym (further_long number old file root nodes is)) is.short

pub returns-clause-over : goal.returns-clause-over
returns-clause-over c = λ number seen old nodes file root agree fresh is. file_over number seen old nodes agree file root fresh is
