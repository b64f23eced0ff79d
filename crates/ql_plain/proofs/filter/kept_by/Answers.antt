use Rattle.std.proofs.Common.{◌≡◌, ℕ, ℤ, List, IfOk, ◌↔◌, subst, sym, ap, ◌∙◌}
use Rattle.std.specs.List.{Contains}
use Rattle.osm_model.specs.Elements.{Element, reference}
use Rattle.osm_model.specs.declared.reference.Ref.{Ref}
use Rattle.ql_syntax.specs.StatementViews.{filter_of}
use Rattle.ql_syntax.specs.declared.filter.Filter.{Filter}
use Rattle.ref_sets.proofs.shared.Results.{if_ok_as}
use Rattle.ref_sets.specs.NamedSets.{lists_of}
use Rattle.ref_sets.specs.Sets.{IsSetOf}
use Rattle.ql_meaning.specs.ObjectTests.{PassesAlone}
use Rattle.ql_meaning.specs.Values.{IsOnPath, IsRefOf, Passes}
use Rattle.ql_plain.proofs.Selecting.{keeps_refs, passes_alone}
use Rattle.ql_plain.specs.internal.Keeping.{Keeps}
use Rattle.ql_plain.proofs.filter.kept_by.Goals as goal

pub returns-in-InSet : goal.returns-in-InSet
returns-in-InSet c =
    let objects = c.args.set.now in
    let env = lists_of c.args.sets.now.named.items in
    let names_are : c.get.result.now ≡ env c.in-InSet.name = c.get.ensures ∙ ap (λ (name : List ℕ). env name) c.as_bytes.ensures in
    subst (λ (f : Filter). IfOk c.copy.result (λ refs. Keeps objects refs (λ o. Passes objects env o (filter_of f)))) (sym c.in-InSet.is)
    (if_ok_as c.copy.result
    (λ refs same o there. subst (λ (names : List Ref). Contains refs (reference o) ↔ Contains names (reference o)) (same ∙ names_are) ((λ has. has), (λ has. has)))
    c.copy.ensures)

pub returns-in-Ids : goal.returns-in-Ids
returns-in-Ids c =
    let objects = c.args.set.now in
    let env = lists_of c.args.sets.now.named.items in
    subst (λ (f : Filter). IfOk c.with_ids.result (λ refs. Keeps objects refs (λ o. Passes objects env o (filter_of f)))) (sym c.in-Ids.is)
    (if_ok_as c.with_ids.result
    (λ refs so o there. subst (λ (ids : List ℤ). Contains refs (reference o) ↔ Contains ids o.id) c.as_slice-in-Ids.ensures (so.members (reference o)))
    c.with_ids.ensures)

pub returns-in-Via : goal.returns-in-Via
returns-in-Via c =
    let objects = c.args.set.now in
    let env = lists_of c.args.sets.now.named.items in
    let names_are : c.get-in-Via.result.now ≡ env c.in-Via.name = c.get-in-Via.ensures ∙ ap (λ (name : List ℕ). env name) c.as_bytes-in-Via.ensures in
    subst (λ (f : Filter). IfOk c.on_path.result (λ refs. Keeps objects refs (λ o. Passes objects env o (filter_of f)))) (sym c.in-Via.is)
    (if_ok_as c.on_path.result
    (λ refs so. keeps_refs objects c.as_slice.ensures.set (IsOnPath objects (env c.in-Via.name) c.in-Via.path)
    (subst (λ (names : List Ref). IsSetOf refs (IsRefOf objects (IsOnPath objects names c.in-Via.path))) names_are so))
    c.on_path.ensures)

pub returns-in_default : goal.returns-in_default
returns-in_default c =
    let objects = c.args.set.now in
    let env = lists_of c.args.sets.now.named.items in
    let f = c.args.filter.now in
    if_ok_as c.passing.result
    (λ refs so o there.
    let keeps = keeps_refs objects c.as_slice.ensures.set (λ (p : Element). PassesAlone (filter_of f) p) so o there in
    let same = passes_alone objects env o f c.in_default.not-InSet c.in_default.not-Ids c.in_default.not-Via in
    ((λ has. same.0 (keeps.0 has)), (λ p. keeps.1 (same.1 p))))
    c.passing.ensures
