use Rattle.std.proofs.Common.{◌≡◌, List, Some, None, FitsSigned, w64, sym, ap, ◌∙◌, rules}
use Rattle.std.specs.List.{slice_get}
use Rattle.std.specs.Option.{option_copied}
use Rattle.osm_model.specs.Elements.{Element}
use Rattle.tree_build.specs.StrangeShelves.{IsRefusedFor}
use Rattle.tree_node.specs.NodeRefs.{bindings_of}
use Rattle.tree_node.specs.declared.item.Item.{Item}
use Rattle.tree_node.specs.declared.tree.Tree.TheVariants.{Objects}
use Rattle.osm_keys.specs.Publications.{tree_in}
use Rattle.osm_index.proofs.ChangeTreeLemmas.{refused_as}
use Rattle.osm_index.proofs.HeldTreeLemmas.{memory_told}
use Rattle.osm_index.proofs.NamedLemmas.{first_found, found_as, none_found}
use Rattle.osm_index.proofs.named_objects.named_object.Goals as goal

pub returns-in-None-clause-found : goal.returns-in-None-clause-found
returns-in-None-clause-found g c = λ p holds.
    let fits : FitsSigned w64 c.args.name.id = search rules in
    let found = c.in_ok-found.found.items in
    let is = found_as p holds.published c.args.name fits c.reference_key-key.result c.reference_key-key.ensures (bindings_of found) (c.in_ok-found.ensures.found p holds) in
    let nowhere : slice_get found 0 ≡ None = ap (λ (xs : List Item). slice_get xs 0) (sym c.deref.ensures.value) ∙ sym c.first.ensures.value ∙ ap option_copied c.in-None.is in
    sym (none_found p.objects c.args.name found nowhere is)

pub returns-in_err-found-clause-told : goal.returns-in_err-found-clause-told
returns-in_err-found-clause-told g c = λ p holds.
    refused_as (IsRefusedFor (tree_in p Objects) (g.S.Shelf.holds c.entries_in.new.shelf)) c.from_residual.result c.in_err-found.field-0.0 c.from_residual.ensures.1 (c.in_err-found.ensures.told p holds)

pub returns-in_err-read_object-in-Some-clause-told : goal.returns-in_err-read_object-in-Some-clause-told
returns-in_err-read_object-in-Some-clause-told g c = λ p holds.
    let fits : FitsSigned w64 c.args.name.id = search rules in
    let found = c.in_ok-found.found.items in
    let is = found_as p holds.published c.args.name fits c.reference_key-key.result c.reference_key-key.ensures (bindings_of found) (c.in_ok-found.ensures.found p holds) in
    let first : slice_get found 0 ≡ Some c.in-Some.item.now = ap (λ (xs : List Item). slice_get xs 0) (sym c.deref.ensures.value) ∙ sym c.first.ensures.value ∙ ap option_copied c.in-Some.is in
    let (o, at, element, line) = first_found p.objects c.args.name found c.in-Some.item.now first holds.published.set is in
    refused_as (IsRefusedFor (tree_in p Objects) (g.S.Shelf.holds c.entries_in.new.shelf)) c.from_residual-in_err-read_object-in-Some.result c.in_err-read_object-in-Some.field-0.0 c.from_residual-in_err-read_object-in-Some.ensures.1
    (memory_told (tree_in p Objects) (g.S.Shelf.holds c.entries_in.new.shelf) c.in_err-read_object-in-Some.field-0.0 (c.in_err-read_object-in-Some.ensures.told o element line))

pub returns-clause-found : goal.returns-clause-found
returns-clause-found g c = λ p holds.
    let fits : FitsSigned w64 c.args.name.id = search rules in
    let found = c.in_ok-found.found.items in
    let is = found_as p holds.published c.args.name fits c.reference_key-key.result c.reference_key-key.ensures (bindings_of found) (c.in_ok-found.ensures.found p holds) in
    let first : slice_get found 0 ≡ Some c.in-Some.item.now = ap (λ (xs : List Item). slice_get xs 0) (sym c.deref.ensures.value) ∙ sym c.first.ensures.value ∙ ap option_copied c.in-Some.is in
    let (o, at, element, line) = first_found p.objects c.args.name found c.in-Some.item.now first holds.published.set is in
    ap (λ (x : Element). Some x) (c.in_ok-read_object-in-Some.ensures.read o element line) ∙ sym at
