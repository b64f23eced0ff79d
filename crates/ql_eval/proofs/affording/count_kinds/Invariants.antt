use Rattle.std.proofs.Common.{Ok, take}
use Rattle.tree_node.specs.declared.tree.Tree.TheVariants.{Objects}
use Rattle.tree_node.proofs.shared.OutcomeLaws.{uses}
use Rattle.osm_keys.specs.Publications.{IsPublication, Publication}
use Rattle.ref_sets.specs.Adding.{From}
use Rattle.ql_eval.specs.Faults.{cause_of_evaluation}
use Rattle.ql_eval.specs.Questions.{NeededBy}
use Rattle.ql_eval.specs.internal.Affording.{HasSoMany, Within}
use Rattle.ql_eval.specs.internal.Candidates.{IsKindAsk}
use Rattle.ql_eval.proofs.AffordingLemmas.{IsObjectOf}
use Rattle.ql_eval.proofs.affording.count_kinds.Given as goal

abbrev pub invariant-loop-one : goal.invariant-loop-one
invariant-loop-one g l = record {
  later : g.W.Source.later l.fn.source l.source;
  walked : g.W.Source.walked l.fn.source l.source;
  answer : (p : Publication) (is : IsPublication p) → g.W.Source.reads l.fn.source p
      → Within cause_of_evaluation (λ (_ : Unit {0}). HasSoMany p Objects (From (take l.one-index l.one-items) (IsObjectOf p is)) l.number)
      (NeededBy p (From l.one-items IsKindAsk)) (uses (g.W.Source.holds l.source) (g.W.Source.used l.fn.source) (g.W.Source.used l.source)) (Ok tt);
}
