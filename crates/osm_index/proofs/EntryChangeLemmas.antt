-- Changes of entries, one after the other.
use Rattle.std.proofs.Common.{◌≡◌, ℕ, ◌+◌, ◌<◌, List, [], ◌∷◌, ◌++◌, length, get_or, take, map, sym, ap, ◌∙◌, append_assoc}
use Rattle.std.proofs.lemmas.List.{map-append, take_more}
use Rattle.tree_build.specs.Changing.{Change}
use Rattle.tree_build.specs.Rebuilding.{change_of, changes_of}
use Rattle.tree_build.specs.declared.change.EntryChange.{EntryChange}
use Rattle.tree_node.specs.NodeRefs.{binding_of, bindings_of}
use Rattle.tree_node.specs.Nodes.{Binding}
use Rattle.tree_node.specs.declared.item.Item.{Item}
use Rattle.osm_index.specs.internal.EntryChanges.{put_of}

puts_more : (entries : List Item) (i : ℕ) (x : Item) → i < length entries → map put_of (bindings_of (take (i + 1) entries)) ≡ map put_of (bindings_of (take i entries)) ++ put_of (binding_of (get_or entries i x)) ∷ []
puts_more entries i x inside =
    ap (λ (es : List Item). map put_of (bindings_of es)) (take_more entries i x inside)
    ∙ ap (map put_of) (map-append binding_of (take i entries) (get_or entries i x ∷ []))
    ∙ map-append put_of (bindings_of (take i entries)) (binding_of (get_or entries i x) ∷ [])

-- one more entry is put
pub put_more : (start : List (Change Binding)) (old new : List EntryChange) (f : EntryChange) (entries : List Item) (i : ℕ) (x : Item) → i < length entries
    → changes_of old ≡ start ++ map put_of (bindings_of (take i entries)) → new ≡ old ++ f ∷ [] → change_of f ≡ put_of (binding_of (get_or entries i x))
    → changes_of new ≡ start ++ map put_of (bindings_of (take (i + 1) entries))
put_more start old new f entries i x inside before pushed is =
    let puts = map put_of (bindings_of (take i entries)) in
    ap changes_of pushed
    ∙ map-append change_of old (f ∷ [])
    ∙ ap (λ (cs : List (Change Binding)). cs ++ change_of f ∷ []) before
    ∙ append_assoc start puts (change_of f ∷ [])
    ∙ ap (λ (c : Change Binding). start ++ (puts ++ c ∷ [])) is
    ∙ ap (λ (cs : List (Change Binding)). start ++ cs) (sym (puts_more entries i x inside))
