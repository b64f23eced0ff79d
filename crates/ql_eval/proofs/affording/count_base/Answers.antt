use Rattle.std.proofs.Common.{ℕ, Option, Result, refl, sym, subst}
use Rattle.std.specs.Borrow.{Bor}
use Rattle.std.specs.Option.{ForSome, option_map}
use Rattle.osm_model.specs.declared.kind.Kind.{Kind}
use Rattle.tree_node.specs.Outcomes.{ShelfUse}
use Rattle.tree_node.proofs.shared.OutcomeLaws.{uses}
use Rattle.osm_keys.specs.Publications.{Publication}
use Rattle.ql_syntax.specs.Filters as tree
use Rattle.ql_syntax.specs.LawfulQueries.{Allows}
use Rattle.ql_syntax.specs.StatementViews.{filter_of}
use Rattle.ql_syntax.specs.declared.filter.Filter.{Filter}
use Rattle.ql_syntax.specs.declared.pick.Pick.{Pick}
use Rattle.ref_sets.specs.Adding.{From}
use Rattle.ref_sets.specs.NamedSets.{Env}
use Rattle.ql_eval.specs.Asks.{AskedByBase, kind_picked, kinds_of}
use Rattle.ql_eval.specs.Faults.{cause_of_evaluation}
use Rattle.ql_eval.specs.Questions.{NeededBy}
use Rattle.ql_eval.specs.declared.fault.EvalFault.{EvalFault}
use Rattle.ql_eval.specs.internal.Affording.{IsPartOf, IsWithinSet, Within, WorkOfFinding}
use Rattle.ql_eval.specs.internal.Candidates.{IsKindAsk, IsOfThisKind}
use Rattle.ql_eval.proofs.AffordingLemmas.{candidates_part, within_same}
use Rattle.ql_eval.proofs.CandidateLemmas.{kinds_selected}
use Rattle.ql_eval.proofs.affording.count_base.Goals as goal

-- how the entries of a base are counted, and the objects of kinds
abbrev CountedWell : Publication → Env → Pick → Option tree.Filter → ShelfUse → Result ℕ EvalFault → Type 0
CountedWell p env pick base shelf result = Within cause_of_evaluation (IsPartOf (WorkOfFinding p env pick base)) (NeededBy p (AskedByBase p env (kind_picked pick) base)) shelf result

abbrev KindsCounted : Publication → Option Kind → ShelfUse → Result ℕ EvalFault → Type 0
KindsCounted p kind shelf result = Within cause_of_evaluation (IsWithinSet (From (kinds_of kind) (IsOfThisKind p.objects))) (NeededBy p (From (kinds_of kind) IsKindAsk)) shelf result

pub returns-in-None-clause-answer : goal.returns-in-None-clause-answer
returns-in-None-clause-answer g c = λ p env is reads lawful.
    let shelf = uses (g.W.Source.holds c.count_kinds.new.source) (g.W.Source.used c.args.source.now) (g.W.Source.used c.count_kinds.new.source) in
    subst (λ (b : Option (Bor Filter)). CountedWell p env c.args.pick (option_map (λ f. filter_of f.now) b) shelf c.count_kinds.result) (sym c.in-None.is)
    (within_same (λ x needs. needs) (λ n. candidates_part n (kinds_selected p.objects env c.args.pick))
    (subst (λ (kind : Option Kind). KindsCounted p kind shelf c.count_kinds.result) c.kind_of.ensures (c.count_kinds.ensures.answer p is reads)))

pub returns-in-Some-clause-answer : goal.returns-in-Some-clause-answer
returns-in-Some-clause-answer g c = λ p env is reads lawful.
    let shelf = uses (g.W.Source.holds c.count_kept.new.source) (g.W.Source.used c.args.source.now) (g.W.Source.used c.count_kept.new.source) in
    subst (λ (b : Option (Bor Filter)). CountedWell p env c.args.pick (option_map (λ f. filter_of f.now) b) shelf c.count_kept.result) (sym c.in-Some.is)
    (c.count_kept.ensures.answer p env is reads (subst (λ (b : Option (Bor Filter)). ForSome (option_map (λ f. filter_of f.now) b) (Allows c.args.pick)) c.in-Some.is lawful _ refl))
