-- The key of an entry is that of one object.
use Rattle.std.proofs.Common.{◌≡◌, refl, sym, ap, ◌∙◌}
use Rattle.osm_model.specs.Elements.{Element, reference}
use Rattle.osm_model.specs.Limits.{IsElement}
use Rattle.tree_node.specs.Nodes.{Binding}
use Rattle.tree_node.specs.declared.tree.Tree.{Tree}
use Rattle.tree_node.specs.declared.tree.Tree.TheVariants.{Objects, Tags, Cells, Backs}
use Rattle.osm_keys.specs.Entries.{IsEntryOf}
use Rattle.osm_keys.specs.Grains.{Whole}
use Rattle.osm_keys.specs.Keys.{column, row}
use Rattle.osm_keys.proofs.shared.OneKey.{one_in_cell, one_referrer, one_tagged}
use Rattle.osm_keys.proofs.shared.OneObject.{same_ref}

pub one_owner : (tree : Tree) (o p : Element) → IsElement o → IsElement p → (a b : Binding) → IsEntryOf Whole o tree a → IsEntryOf Whole p tree b → a.key ≡ b.key → reference o ≡ reference p
one_owner Objects o p is is_too a b h k e =
    same_ref (reference o) (reference p) is.in_range is_too.in_range (sym (ap (λ (x : Binding). x.key) h) ∙ e ∙ ap (λ (x : Binding). x.key) k)
one_owner Tags o p is is_too a b (tag, has, h) (tag', has', k) e =
    one_tagged (reference o) (reference p) is.in_range is_too.in_range tag.key tag.value tag'.key tag'.value (sym (ap (λ (x : Binding). x.key) h) ∙ e ∙ ap (λ (x : Binding). x.key) k)
one_owner Cells o p is is_too a b (place, at, h) (place', at', k) e =
    let id = one_in_cell (row place.lat) (column place.lon) (row place'.lat) (column place'.lon) o.id p.id is.in_range is_too.in_range (sym (ap (λ (x : Binding). x.key) h) ∙ e ∙ ap (λ (x : Binding). x.key) k) in
    rw (at, at', id) refl
one_owner Backs o p is is_too a b (target, lists, h) (target', lists', k) e =
    one_referrer (reference o) (reference p) is.in_range is_too.in_range target target' (sym (ap (λ (x : Binding). x.key) h) ∙ e ∙ ap (λ (x : Binding). x.key) k)
