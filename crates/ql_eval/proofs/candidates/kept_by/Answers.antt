use Rattle.std.proofs.Common.{◌≡◌, ℕ, ℤ, List, Ok, refl, sym, ap, subst, ◌∙◌}
use Rattle.std.specs.List.{Contains}
use Rattle.osm_model.specs.Boxes.{ExactBox}
use Rattle.osm_model.specs.declared.reference.Ref.{Ref}
use Rattle.tree_node.proofs.shared.OutcomeLaws.{outcome_starts, uses}
use Rattle.osm_keys.specs.Ranges.{IsKindOf}
use Rattle.ql_syntax.specs.Filters.{Filter, HasKey, Ids, KeyIs, Within}
use Rattle.ql_syntax.specs.LawfulQueries.{Allows}
use Rattle.ql_syntax.specs.StatementViews.{filter_of}
use Rattle.ref_sets.specs.Sets.{IsSetOf}
use Rattle.ref_sets.specs.NamedSets.{lists_of}
use Rattle.ql_eval.specs.Questions.{WithTag, names_ask}
use Rattle.ql_eval.specs.internal.Links.{AreThere}
use Rattle.ql_eval.proofs.CandidateLemmas.{box_kept, ids_kept, kept_as, key_kept, set_kept, tag_kept}
use Rattle.ql_eval.proofs.EachLemmas.{needed_one, one_needed}
use Rattle.ql_eval.proofs.PathLemmas.{PathWell}
use Rattle.ql_eval.proofs.GivenLemmas.{part_given}
use Rattle.ql_eval.specs.internal.Giving.{AllGiven}
use Rattle.std.proofs.Common.{Some}
use Rattle.ref_sets.proofs.shared.Results.{on_ok_as}
use Rattle.ql_eval.specs.Work.{WorkOfBase}
use Rattle.ql_eval.specs.internal.Metering.{IsBounded, IsSpent}
use Rattle.ql_eval.proofs.MeterLemmas.{nothing_spent, still}
use Rattle.ql_eval.proofs.AbsenceLemmas.{ids_asked}
use Rattle.ql_eval.proofs.TruthLemmas.{truly_same}
use Rattle.ql_eval.proofs.candidates.kept_by.Goals as goal

pub returns-in-Ids-clause-answer : goal.returns-in-Ids-clause-answer
returns-in-Ids-clause-answer g c = λ p is under there allowed.
    let env = lists_of c.args.sets.now.named.items in
    let kind = c.kind_of-kind.result in
    let ids = c.as_slice.result.now in
    kept_as p env (g.W.Source.under c.with_ids.new.source p) (uses (g.W.Source.holds c.with_ids.new.source) (g.W.Source.used c.args.source.now) (g.W.Source.used c.with_ids.new.source)) c.with_ids.result c.kind_of-kind.ensures (ap filter_of c.in-Ids.is ∙ ap (λ (l : List ℤ). Ids l) (sym c.as_slice.ensures))
    (truly_same (λ x needs. needs) (λ refs so x needs. needs) (λ refs. ids_kept p.objects env kind refs ids) (c.with_ids.ensures.answer p is under))

pub returns-in_ok-picked-in-InSet-clause-answer : goal.returns-in_ok-picked-in-InSet-clause-answer
returns-in_ok-picked-in-InSet-clause-answer g c = λ p is under there allowed.
    let env = lists_of c.args.sets.now.named.items in
    let kind = c.kind_of-kind.result in
    let name = c.in-InSet.name in
    let refs = c.in_ok-picked-in-InSet.field-0 in
    let so = subst (λ (set : List Ref). IsSetOf refs (λ r. Contains set r × IsKindOf kind r)) (c.get.ensures ∙ ap env c.as_bytes.ensures) c.in_ok-picked-in-InSet.ensures in
    kept_as p env (g.W.Source.under c.args.source.now p) (uses (g.W.Source.holds c.args.source.now) (g.W.Source.used c.args.source.now) (g.W.Source.used c.args.source.now)) (Ok c.in_ok-picked-in-InSet.field-0) c.kind_of-kind.ensures (ap filter_of c.in-InSet.is)
    (outcome_starts (set_kept p.objects env kind refs name (there name) so, under) (λ x needs. needs.asked))

pub returns-in-Via-clause-answer : goal.returns-in-Via-clause-answer
returns-in-Via-clause-answer g c = λ p is under there allowed.
    let env = lists_of c.args.sets.now.named.items in
    let kind = c.kind_of-kind.result in
    let set = c.get-in-Via.ensures ∙ ap env c.as_bytes-in-Via.ensures in
    kept_as p env (g.W.Source.under c.on_path.new.source p) (uses (g.W.Source.holds c.on_path.new.source) (g.W.Source.used c.args.source.now) (g.W.Source.used c.on_path.new.source)) c.on_path.result c.kind_of-kind.ensures (ap filter_of c.in-Via.is)
    (subst (λ (set : List Ref). PathWell p c.in-Via.path set kind (g.W.Source.under c.on_path.new.source p) (uses (g.W.Source.holds c.on_path.new.source) (g.W.Source.used c.args.source.now) (g.W.Source.used c.on_path.new.source)) c.on_path.result) set
    (c.on_path.ensures.answer p is under (subst (λ (set : List Ref). AreThere p.objects set) (sym set) (there c.in-Via.name))))

pub returns-in-KeyIs-clause-answer : goal.returns-in-KeyIs-clause-answer
returns-in-KeyIs-clause-answer g c = λ p is under there allowed.
    let env = lists_of c.args.sets.now.named.items in
    let key = c.as_bytes-in-KeyIs.result.now in
    let value = c.as_bytes-in-KeyIs-2.result.now in
    let filter : filter_of c.args.filter.now ≡ KeyIs key value = ap filter_of c.in-KeyIs.is ∙ ap (λ (k : List ℕ). KeyIs k c.in-KeyIs.value) (sym c.as_bytes-in-KeyIs.ensures) ∙ ap (λ (v : List ℕ). KeyIs key v) (sym c.as_bytes-in-KeyIs-2.ensures) in
    kept_as p env (g.W.Source.under c.names.new.self p) (uses (g.W.Source.holds c.names.new.self) (g.W.Source.used c.args.source.now) (g.W.Source.used c.names.new.self)) c.names.result c.kind_of-kind.ensures filter
    (truly_same (needed_one (names_ask (WithTag key value c.kind_of-kind.result)) refl) (λ refs so. one_needed (names_ask (WithTag key value c.kind_of-kind.result))) (λ refs. tag_kept p.objects env c.kind_of-kind.result refs key value)
    (c.names.ensures.answer p is under (subst (λ (f : Filter). Allows c.args.pick f) filter allowed)))

pub returns-in-HasKey-clause-answer : goal.returns-in-HasKey-clause-answer
returns-in-HasKey-clause-answer g c = λ p is under there allowed.
    let env = lists_of c.args.sets.now.named.items in
    let key = c.as_bytes-in-HasKey.result.now in
    let filter : filter_of c.args.filter.now ≡ HasKey key = ap filter_of c.in-HasKey.is ∙ ap (λ (k : List ℕ). HasKey k) (sym c.as_bytes-in-HasKey.ensures) in
    kept_as p env (g.W.Source.under c.with_key.new.source p) (uses (g.W.Source.holds c.with_key.new.source) (g.W.Source.used c.args.source.now) (g.W.Source.used c.with_key.new.source)) c.with_key.result c.kind_of-kind.ensures filter
    (truly_same (λ x needs. needs) (λ refs so x needs. needs) (λ refs. key_kept p.objects env c.kind_of-kind.result refs key)
    (c.with_key.ensures.answer p is under (subst (λ (f : Filter). Allows c.args.pick f) filter allowed)))

pub returns-in-Within-clause-answer : goal.returns-in-Within-clause-answer
returns-in-Within-clause-answer g c = λ p is under there allowed.
    let env = lists_of c.args.sets.now.named.items in
    let area = c.deref.result.now in
    kept_as p env (g.W.Source.under c.in_box.new.source p) (uses (g.W.Source.holds c.in_box.new.source) (g.W.Source.used c.args.source.now) (g.W.Source.used c.in_box.new.source)) c.in_box.result c.kind_of-kind.ensures (ap filter_of c.in-Within.is ∙ ap (λ (a : ExactBox). Within a) (sym c.deref.ensures))
    (truly_same (λ x needs. needs) (λ refs so x needs. needs) (λ refs. box_kept p.objects env c.kind_of-kind.result refs area) (c.in_box.ensures.answer p is under))

pub returns-in_ok-picked-in-InSet-clause-named : goal.returns-in_ok-picked-in-InSet-clause-named
returns-in_ok-picked-in-InSet-clause-named g c = part_given c.get.result.now c.in_ok-picked-in-InSet.field-0 c.in_ok-picked-in-InSet.ensures (subst (λ (l : List Ref). AllGiven (g.W.Source.gave c.args.source.now) l) (sym c.get.ensures) (c.requires.named c.as_bytes.result.now))

pub on_path-requires : goal.on_path-requires
on_path-requires g c = subst (λ (l : List Ref). AllGiven (g.W.Source.gave c.args.source.now) l) (sym c.get-in-Via.ensures) (c.requires.named c.as_bytes-in-Via.result.now)

pub returns-in-Ids-clause-bounded : goal.returns-in-Ids-clause-bounded
returns-in-Ids-clause-bounded g c = λ p is under there allowed clear. still _ _

pub returns-in-Ids-clause-spent : goal.returns-in-Ids-clause-spent
returns-in-Ids-clause-spent g c = on_ok_as c.with_ids.result (λ walked p is under there allowed clear. subst (λ (f : Filter). IsSpent (WorkOfBase p (Some f)) c.args.meter.now.spent c.args.meter.now.spent) (sym (ap filter_of c.in-Ids.is)) (nothing_spent _)) c.with_ids.ensures.walked

pub returns-in-Via-clause-bounded : goal.returns-in-Via-clause-bounded
returns-in-Via-clause-bounded g c = λ p is under there allowed clear. still _ _

pub returns-in-Via-clause-spent : goal.returns-in-Via-clause-spent
returns-in-Via-clause-spent g c = on_ok_as c.on_path.result (λ walked p is under there allowed clear. subst (λ (f : Filter). IsSpent (WorkOfBase p (Some f)) c.args.meter.now.spent c.args.meter.now.spent) (sym (ap filter_of c.in-Via.is)) (nothing_spent _)) c.on_path.ensures.walked

pub returns-in-KeyIs-clause-bounded : goal.returns-in-KeyIs-clause-bounded
returns-in-KeyIs-clause-bounded g c = λ p is under there allowed clear. still _ _

pub returns-in-KeyIs-clause-spent : goal.returns-in-KeyIs-clause-spent
returns-in-KeyIs-clause-spent g c = on_ok_as c.names.result (λ walked p is under there allowed clear. subst (λ (f : Filter). IsSpent (WorkOfBase p (Some f)) c.args.meter.now.spent c.args.meter.now.spent) (sym (ap filter_of c.in-KeyIs.is)) (nothing_spent _)) c.names.ensures.walked

pub returns-in-Within-clause-bounded : goal.returns-in-Within-clause-bounded
returns-in-Within-clause-bounded g c = λ p is under there allowed clear.
    let filter : filter_of c.args.filter.now ≡ Within c.deref.result.now = ap filter_of c.in-Within.is ∙ ap (λ (a : ExactBox). Within a) (sym c.deref.ensures) in
    subst (λ (f : Filter). IsBounded (WorkOfBase p (Some f)) c.args.meter.now.spent c.in_box.new.meter.spent) (sym filter) (c.in_box.ensures.bounded p is under clear)

pub returns-in-Within-clause-spent : goal.returns-in-Within-clause-spent
returns-in-Within-clause-spent g c = on_ok_as c.in_box.result (λ spent p is under there allowed clear.
    let filter : filter_of c.args.filter.now ≡ Within c.deref.result.now = ap filter_of c.in-Within.is ∙ ap (λ (a : ExactBox). Within a) (sym c.deref.ensures) in
    subst (λ (f : Filter). IsSpent (WorkOfBase p (Some f)) c.args.meter.now.spent c.in_box.new.meter.spent) (sym filter) (spent p is under clear)) c.in_box.ensures.spent

pub returns-in_err-picked-in-InSet-clause-bounded : goal.returns-in_err-picked-in-InSet-clause-bounded
returns-in_err-picked-in-InSet-clause-bounded g c = λ p is under there allowed clear. still _ _

pub returns-in_ok-picked-in-InSet-clause-bounded : goal.returns-in_ok-picked-in-InSet-clause-bounded
returns-in_ok-picked-in-InSet-clause-bounded g c = λ p is under there allowed clear. still _ _

pub returns-in_ok-picked-in-InSet-clause-spent : goal.returns-in_ok-picked-in-InSet-clause-spent
returns-in_ok-picked-in-InSet-clause-spent g c = λ p is under there allowed clear. subst (λ (f : Filter). IsSpent (WorkOfBase p (Some f)) c.args.meter.now.spent c.args.meter.now.spent) (sym (ap filter_of c.in-InSet.is)) (nothing_spent _)

pub returns-in-HasKey-clause-bounded : goal.returns-in-HasKey-clause-bounded
returns-in-HasKey-clause-bounded g c = λ p is under there allowed clear.
    let key = c.as_bytes-in-HasKey.result.now in
    let filter : filter_of c.args.filter.now ≡ HasKey key = ap filter_of c.in-HasKey.is ∙ ap (λ (k : List ℕ). HasKey k) (sym c.as_bytes-in-HasKey.ensures) in
    subst (λ (f : Filter). IsBounded (WorkOfBase p (Some f)) c.args.meter.now.spent c.with_key.new.meter.spent) (sym filter)
    (c.with_key.ensures.bounded p is under (subst (λ (f : Filter). Allows c.args.pick f) filter allowed) clear)

pub returns-in-HasKey-clause-spent : goal.returns-in-HasKey-clause-spent
returns-in-HasKey-clause-spent g c = on_ok_as c.with_key.result (λ spent p is under there allowed clear.
    let key = c.as_bytes-in-HasKey.result.now in
    let filter : filter_of c.args.filter.now ≡ HasKey key = ap filter_of c.in-HasKey.is ∙ ap (λ (k : List ℕ). HasKey k) (sym c.as_bytes-in-HasKey.ensures) in
    subst (λ (f : Filter). IsSpent (WorkOfBase p (Some f)) c.args.meter.now.spent c.with_key.new.meter.spent) (sym filter)
    (spent p is under (subst (λ (f : Filter). Allows c.args.pick f) filter allowed) clear)) c.with_key.ensures.spent

pub with_ids-requires : goal.with_ids-requires
with_ids-requires g c = λ r of. c.requires.asked r (ids_asked c.args.pick (filter_of c.args.filter.now) c.kind_of-kind.result c.as_slice.result.now r c.kind_of-kind.ensures (ap filter_of c.in-Ids.is ∙ ap (λ (l : List ℤ). Ids l) (sym c.as_slice.ensures)) of)
