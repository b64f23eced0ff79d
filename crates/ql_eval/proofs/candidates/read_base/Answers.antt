use Rattle.std.proofs.Common.{List, Option, refl, sym, ap, subst, ◌∙◌}
use Rattle.std.specs.Borrow.{Bor}
use Rattle.std.specs.Option.{ForSome, option_map, option_to_list}
use Rattle.osm_model.specs.declared.kind.Kind.{Kind}
use Rattle.tree_node.proofs.shared.OutcomeLaws.{uses}
use Rattle.ql_syntax.specs.LawfulQueries.{Allows}
use Rattle.ql_syntax.specs.StatementViews.{filter_of}
use Rattle.ql_syntax.specs.declared.filter.Filter.{Filter}
use Rattle.ref_sets.proofs.shared.Results.{on_ok_as}
use Rattle.ref_sets.specs.NamedSets.{lists_of}
use Rattle.ql_eval.specs.Absences.{IsAskedById}
use Rattle.ql_eval.specs.Asks.{kinds_of}
use Rattle.ql_eval.specs.Work.{WorkOfBase}
use Rattle.ql_eval.specs.internal.Metering.{IsBounded, IsSpent}
use Rattle.ql_eval.proofs.CandidateLemmas.{FoundWell, KindsWell, all_selected, one_selected}
use Rattle.ql_eval.proofs.MeterLemmas.{nothing_spent, still}
use Rattle.ql_eval.proofs.TruthLemmas.{truly_same}
use Rattle.ql_eval.proofs.candidates.read_base.Goals as goal

pub returns-in-None-clause-answer : goal.returns-in-None-clause-answer
returns-in-None-clause-answer g c = λ p is under there lawful.
    let env = lists_of c.args.sets.now.named.items in
    let shelf = uses (g.W.Source.holds c.of_kinds.new.source) (g.W.Source.used c.args.source.now) (g.W.Source.used c.of_kinds.new.source) in
    subst (λ (b : Option (Bor Filter)). FoundWell p env c.args.pick (option_map (λ f. filter_of f.now) b) (g.W.Source.under c.of_kinds.new.source p) shelf c.of_kinds.result) (sym c.in-None.is)
    (truly_same (λ x needs. needs) (λ refs so x needs. needs) (λ refs. all_selected p.objects env c.args.pick refs)
    (subst (λ (kinds : List Kind). KindsWell p kinds (g.W.Source.under c.of_kinds.new.source p) shelf c.of_kinds.result) (c.kinds_in.ensures ∙ ap kinds_of c.kind_of.ensures) (c.of_kinds.ensures.answer p is under)))

pub returns-in-Some-clause-answer : goal.returns-in-Some-clause-answer
returns-in-Some-clause-answer g c = λ p is under there lawful.
    let env = lists_of c.args.sets.now.named.items in
    let shelf = uses (g.W.Source.holds c.kept_by.new.source) (g.W.Source.used c.args.source.now) (g.W.Source.used c.kept_by.new.source) in
    subst (λ (b : Option (Bor Filter)). FoundWell p env c.args.pick (option_map (λ f. filter_of f.now) b) (g.W.Source.under c.kept_by.new.source p) shelf c.kept_by.result) (sym c.in-Some.is)
    (truly_same (λ x needs. needs) (λ refs so x needs. needs) (λ refs. one_selected p.objects env c.args.pick (filter_of c.in-Some.filter.now) refs)
    (c.kept_by.ensures.answer p is under there (subst (λ (b : Option (Bor Filter)). ForSome (option_map (λ f. filter_of f.now) b) (Allows c.args.pick)) c.in-Some.is lawful _ refl)))

pub returns-in-None-clause-bounded : goal.returns-in-None-clause-bounded
returns-in-None-clause-bounded g c = λ p is under there lawful clear. still _ _

pub returns-in-None-clause-spent : goal.returns-in-None-clause-spent
returns-in-None-clause-spent g c = on_ok_as c.of_kinds.result (λ walked p is under there lawful clear.
    subst (λ (b : Option (Bor Filter)). IsSpent (WorkOfBase p (option_map (λ f. filter_of f.now) b)) c.args.meter.now.spent c.args.meter.now.spent) (sym c.in-None.is) (nothing_spent _)) c.of_kinds.ensures.walked

pub returns-in-Some-clause-bounded : goal.returns-in-Some-clause-bounded
returns-in-Some-clause-bounded g c = λ p is under there lawful clear.
    subst (λ (b : Option (Bor Filter)). IsBounded (WorkOfBase p (option_map (λ f. filter_of f.now) b)) c.args.meter.now.spent c.kept_by.new.meter.spent) (sym c.in-Some.is)
    (c.kept_by.ensures.bounded p is under there (subst (λ (b : Option (Bor Filter)). ForSome (option_map (λ f. filter_of f.now) b) (Allows c.args.pick)) c.in-Some.is lawful _ refl) clear)

pub returns-in-Some-clause-spent : goal.returns-in-Some-clause-spent
returns-in-Some-clause-spent g c = on_ok_as c.kept_by.result (λ spent p is under there lawful clear.
    subst (λ (b : Option (Bor Filter)). IsSpent (WorkOfBase p (option_map (λ f. filter_of f.now) b)) c.args.meter.now.spent c.kept_by.new.meter.spent) (sym c.in-Some.is)
    (spent p is under there (subst (λ (b : Option (Bor Filter)). ForSome (option_map (λ f. filter_of f.now) b) (Allows c.args.pick)) c.in-Some.is lawful _ refl) clear)) c.kept_by.ensures.spent

pub kept_by-requires-clause-asked : goal.kept_by-requires-clause-asked
kept_by-requires-clause-asked g c = λ r of.
    c.requires.asked r (subst (λ (b : Option (Bor Filter)). IsAskedById c.args.pick (option_to_list (option_map (λ f. filter_of f.now) b)) r) (sym c.in-Some.is) of)
