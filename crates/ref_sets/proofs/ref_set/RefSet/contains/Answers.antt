use Rattle.std.proofs.Common.{◌≡◌, ◌↔◌, List, true, subst, sym, ◌∙◌}
use Rattle.std.specs.List.{Contains}
use Rattle.std.specs.declared.cmp.Ordering.{Ordering}
use Rattle.std.specs.List.Sorted.{IsBinarySearchResult, IsStrictlySortedBy}
use Rattle.osm_model.specs.declared.reference.Ref.{Ref}
use Rattle.osm_model.specs.Elements.{ref_cmp}
use Rattle.ref_sets.proofs.shared.Keeping.{found_or_not}
use Rattle.ref_sets.proofs.shared.References.{same_order}
use Rattle.ref_sets.proofs.ref_set.RefSet.contains.Goals as goal

pub returns : goal.returns
returns c =
    let refs = c.deref.result.now in
    let told : IsBinarySearchResult (λ (y : Ref). ref_cmp y c.args.name) refs c.binary_search.result = subst (λ (cmp : Ref → Ref → Ordering). IsBinarySearchResult (λ (y : Ref). cmp y c.args.name) refs c.binary_search.result) same_order c.binary_search.ensures.position in
    let set = c.deref.ensures.value ∙ c.self.view_is in
    let same = found_or_not refs c.args.name c.binary_search.result (subst (λ (xs : List Ref). IsStrictlySortedBy ref_cmp xs) (sym c.deref.ensures.value) c.self.invariant) c.binary_search.ensures.bound told in
    subst (λ (xs : List Ref). (c.is_ok.result ≡ true) ↔ Contains xs c.args.name) set
    ((λ found. same.0 (sym c.is_ok.ensures.value ∙ found)), (λ has. c.is_ok.ensures.value ∙ same.1 has))
