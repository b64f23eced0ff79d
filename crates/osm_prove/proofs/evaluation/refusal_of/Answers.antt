use Rattle.std.proofs.Common.{sym, ◌∙◌}
use Rattle.std.proofs.Math.Logic.{∥∥₁_elim}
use Rattle.std.proofs.lemmas.Bool.{false≢true}
use mathlib.Core.HLevel.{⊥_prop}
use Rattle.osm_prove.proofs.evaluation.refusal_of.Goals as goal

pub unreachable-requires : goal.unreachable-requires
unreachable-requires c = ∥∥₁_elim c.requires ⊥_prop (λ no_memory. false≢true (sym c.if-not-is_memory.true ∙ c.is_memory.ensures no_memory (λ work. false≢true (sym c.if-is_work.false ∙ c.is_work.ensures.1 work))))
