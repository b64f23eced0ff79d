use Rattle.std.proofs.Common.{◌≡◌, ℕ, List, Option, Result, Some, refl, sym, ap, subst, ◌∙◌}
use Rattle.osm_model.specs.Boxes.{ExactBox}
use Rattle.osm_model.specs.declared.kind.Kind.{Kind}
use Rattle.tree_node.specs.Outcomes.{ShelfUse}
use Rattle.tree_node.specs.declared.tree.Tree.TheVariants.{Tags}
use Rattle.tree_node.proofs.shared.OutcomeLaws.{uses}
use Rattle.osm_keys.specs.Publications.{Publication}
use Rattle.osm_keys.specs.Ranges.{tag_key_range, tag_range}
use Rattle.ql_syntax.specs.Filters.{Filter, HasKey, KeyIs, Within}
use Rattle.ql_syntax.specs.LawfulQueries.{Allows}
use Rattle.ql_syntax.specs.StatementViews.{filter_of}
use Rattle.ql_syntax.specs.declared.pick.Pick.{Pick}
use Rattle.ref_sets.specs.NamedSets.{Env}
use Rattle.ql_eval.specs.Asks.{AskedByBase, kind_picked}
use Rattle.ql_eval.specs.Faults.{cause_of_evaluation}
use Rattle.ql_eval.specs.Questions.{IsCountOf, NeededBy, NeedsAsk, WithKey, WithTag, count_ask, names_ask}
use Rattle.ql_eval.specs.declared.fault.EvalFault.{EvalFault}
use Rattle.ql_eval.specs.internal.Affording as affording
use Rattle.ql_eval.specs.internal.Affording.{IsPartOf, WorkOfFinding}
use Rattle.ql_eval.proofs.AffordingLemmas.{base_part, candidates_part, counted_needs, key_fits, no_part, tag_fits, within_from, within_same, within_starts}
use Rattle.ql_eval.proofs.CandidateLemmas.{tag_selected}
use Rattle.ql_eval.proofs.affording.count_kept.Goals as goal

-- how the entries of a filter are counted
abbrev CountedWell : Publication → Env → Pick → Filter → ShelfUse → Result ℕ EvalFault → Type 0
CountedWell p env pick filter shelf result = affording.Within cause_of_evaluation (IsPartOf (WorkOfFinding p env pick (Some filter))) (NeededBy p (AskedByBase p env (kind_picked pick) (Some filter))) shelf result

pub returns-in-KeyIs-clause-answer : goal.returns-in-KeyIs-clause-answer
returns-in-KeyIs-clause-answer g c = λ p env is reads allowed.
    let pick = c.args.pick in
    let key = c.as_bytes.result.now in
    let value = c.as_bytes-in-KeyIs.result.now in
    let filter : filter_of c.args.filter.now ≡ KeyIs key value = ap filter_of c.in-KeyIs.is ∙ ap (λ (k : List ℕ). KeyIs k c.in-KeyIs.value) (sym c.as_bytes.ensures) ∙ ap (λ (v : List ℕ). KeyIs key v) (sym c.as_bytes-in-KeyIs.ensures) in
    let clean = subst (λ (f : Filter). Allows pick f) filter allowed in
    subst (λ (f : Filter). CountedWell p env pick f (uses (g.W.Source.holds c.count.new.self) (g.W.Source.used c.args.source.now) (g.W.Source.used c.count.new.self)) c.count.result) (sym filter)
    (within_from
    (λ x needs. record { ask = names_ask (WithTag key value (kind_picked pick)); asked = refl; needs = counted_needs p Tags (tag_range key value (kind_picked pick)) x (subst (λ (k : Option Kind). NeedsAsk p (count_ask (WithTag key value k)) x) c.kind_of.ensures needs) })
    (λ n counted. candidates_part n (tag_selected p.objects env pick key value) (tag_fits p is key value (kind_picked pick) n clean.0 clean.1 (subst (λ (k : Option Kind). IsCountOf p (WithTag key value k) n) c.kind_of.ensures counted)))
    (c.count.ensures.answer p is reads))

pub returns-in-HasKey-clause-answer : goal.returns-in-HasKey-clause-answer
returns-in-HasKey-clause-answer g c = λ p env is reads allowed.
    let pick = c.args.pick in
    let key = c.as_bytes-in-HasKey.result.now in
    let filter : filter_of c.args.filter.now ≡ HasKey key = ap filter_of c.in-HasKey.is ∙ ap (λ (k : List ℕ). HasKey k) (sym c.as_bytes-in-HasKey.ensures) in
    let clean = subst (λ (f : Filter). Allows pick f) filter allowed in
    subst (λ (f : Filter). CountedWell p env pick f (uses (g.W.Source.holds c.count-in-HasKey.new.self) (g.W.Source.used c.args.source.now) (g.W.Source.used c.count-in-HasKey.new.self)) c.count-in-HasKey.result) (sym filter)
    (within_from
    (λ x needs. record { ask = names_ask (WithKey key); asked = refl; needs = counted_needs p Tags (tag_key_range key) x needs })
    (λ n counted. base_part n (key_fits p is key n clean counted))
    (c.count-in-HasKey.ensures.answer p is reads))

pub returns-in-Within-clause-answer : goal.returns-in-Within-clause-answer
returns-in-Within-clause-answer g c = λ p env is reads allowed.
    let filter : filter_of c.args.filter.now ≡ Within c.deref.result.now = ap filter_of c.in-Within.is ∙ ap (λ (a : ExactBox). Within a) (sym c.deref.ensures) in
    subst (λ (f : Filter). CountedWell p env c.args.pick f (uses (g.W.Source.holds c.count_in.new.self) (g.W.Source.used c.args.source.now) (g.W.Source.used c.count_in.new.self)) c.count_in.result) (sym filter)
    (within_same (λ x needs. needs) (λ n. base_part n) (c.count_in.ensures.answer p is reads))

pub returns-in_default-clause-answer : goal.returns-in_default-clause-answer
returns-in_default-clause-answer g c = λ p env is reads allowed. within_starts (no_part _)
