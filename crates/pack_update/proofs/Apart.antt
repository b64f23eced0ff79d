-- Bytes with the digest of a node of a publication are that node, or the two clash. Of bytes in a list that is decided.
use Rattle.std.proofs.Common.{◌≡◌, ◌≢◌, ◌⊎◌, inl, inr, ℕ, List, [], ◌∷◌, ◌++◌, Option, Some, None, map, refl, sym, ap, subst, ◌∙◌}
use Rattle.std.specs.HashMap.{get}
use Rattle.std.specs.List.{Contains}
use Rattle.std.specs.Option.{option_map}
use Rattle.std.proofs.lemmas.List.Elements.{Contains-append_cases, Contains-append_left, Contains-append_right}
use Rattle.std.proofs.lemmas.Map.Views.{Contains-from_lookup}
use Rattle.tree_node.specs.Digests.{digest}
use Rattle.tree_node.specs.Keys.{digest_eq, key_of}
use Rattle.tree_node.specs.Outcomes.{Clash}
use Rattle.tree_node.specs.Parts.{node_of}
use Rattle.tree_node.specs.Shelves.{IsClashFree}
use Rattle.tree_node.specs.declared.digest.Digest.{Digest}
use Rattle.tree_node.specs.declared.part.Part.{Part}
use Rattle.tree_node.proofs.shared.MapLemmas.{eq_is}
use Rattle.tree_node.proofs.shared.TreeSame.{same_or_not}
use Rattle.osm_keys.specs.Publications.{IsNodeIn, IsPublication, Publication}
use Rattle.osm_keys.proofs.shared.Members.{first_or_in_rest, here, in_map, in_rest, none}
use Rattle.outside_shelf.specs.Shelves.{HasBrought}
use Rattle.outside_shelf.specs.declared.outside.OutsideShelf.{OutsideShelf}
use Rattle.pack_update.specs.Adding.{HasSecondPreimage, IsByteString}
use Rattle.pack_update.specs.internal.Updating.{AreAllBytes, IsAlone}
use Rattle.pack_update.proofs.ByteLists.{bytes_stay, only_bytes, stay_bytes}
use Rattle.pack_update.proofs.NodeLists.{all_nodes, from_list, to_list}

-- ---- lists of bytes

-- bytes of the second list with the digest of these are these
abbrev IsOnly : List (List ℕ) → List ℕ → Type 0
IsOnly ys x = (y : List ℕ) → Contains ys y → digest y ≡ digest x → y ≡ x

-- others of the list have their digest
abbrev HasTwin : List (List ℕ) → List ℕ → Type 0
HasTwin ys x = (y : List ℕ) × Contains ys y × (x ≢ y) × (digest x ≡ digest y)

one_apart : (x : List ℕ) (ys : List (List ℕ)) → HasTwin ys x ⊎ IsOnly ys x
one_apart x [] = inr (λ y is_in e. absurd (none y is_in))
one_apart x (first ∷ ys) =
    elim (one_apart x ys) [
      | inl twin ↦ inl (twin.0, in_rest first ys twin.0 twin.1, twin.2, twin.3)
      | inr rest ↦ with_first rest (same_or_not first x) (same_or_not (digest first) (digest x))
    ]
  where
    with_first : IsOnly ys x → (first ≡ x) ⊎ (first ≢ x) → (digest first ≡ digest x) ⊎ (digest first ≢ digest x) → HasTwin (first ∷ ys) x ⊎ IsOnly (first ∷ ys) x
    with_first rest (inl equal) digests = inr (λ y is_in e. elim (first_or_in_rest first ys y is_in) [ inl at ↦ sym at ∙ equal | inr more ↦ rest y more e ])
    with_first rest (inr differ) (inl same) = inl (first, here first ys, (λ e. differ (sym e)), sym same)
    with_first rest (inr differ) (inr apart) =
        inr (λ y is_in e. elim (first_or_in_rest first ys y is_in) [ inl at ↦ absurd (apart (ap digest at ∙ e)) | inr more ↦ rest y more e ])

-- of two lists with one digest two are equal, or clash
apart : (xs ys : List (List ℕ)) → Clash (Contains xs) (Contains ys) ⊎ ((x : List ℕ) → Contains xs x → IsOnly ys x)
apart [] ys = inr (λ x is_in. absurd (none x is_in))
apart (first ∷ xs) ys =
    elim (apart xs ys) [
      | inl clash ↦ inl (clash.0, clash.1, in_rest first xs clash.0 clash.2, clash.3, clash.4, clash.5)
      | inr rest ↦ with_first rest (one_apart first ys)
    ]
  where
    with_first : ((x : List ℕ) → Contains xs x → IsOnly ys x) → HasTwin ys first ⊎ IsOnly ys first → Clash (Contains (first ∷ xs)) (Contains ys) ⊎ ((x : List ℕ) → Contains (first ∷ xs) x → IsOnly ys x)
    with_first rest (inl twin) = inl (first, twin.0, here first xs, twin.1, twin.2, twin.3)
    with_first rest (inr only) = inr (λ x is_in. elim (first_or_in_rest first xs x is_in) [ inl at ↦ subst (IsOnly ys) at only | inr more ↦ rest x more ])

-- ---- nodes of a publication

pub alone_or : (p : Publication) (seen : List (List ℕ)) → ((other : List ℕ) → Contains seen other → IsByteString other) → HasSecondPreimage p ⊎ IsAlone p seen
alone_or p seen bytes =
    elim (apart (all_nodes p) seen) [
      | inl clash ↦ inl (clash.0, clash.1, from_list p clash.0 clash.2, bytes clash.1 clash.3, clash.4, clash.5)
      | inr only ↦ inr (λ bytes other is there same. only bytes (to_list p bytes is) other there same)
    ]

-- the nodes of a publication are byte strings
pub of_nodes : (p : Publication) → IsPublication p → (other : List ℕ) → Contains (all_nodes p) other → IsByteString other
of_nodes p is other has = inr (p, is, from_list p other has)

alone_left : (p : Publication) (xs ys : List (List ℕ)) → IsAlone p (xs ++ ys) → IsAlone p xs
alone_left p xs ys alone bytes other is there same = alone bytes other is (Contains-append_left xs ys other there) same

alone_right : (p : Publication) (xs ys : List (List ℕ)) → IsAlone p (xs ++ ys) → IsAlone p ys
alone_right p xs ys alone bytes other is there same = alone bytes other is (Contains-append_right xs ys other there) same

-- where it is so of its own nodes, no two of them clash
clash_free : (p : Publication) → IsAlone p (all_nodes p) → IsClashFree (IsNodeIn p)
clash_free p alone a b is are same = alone b a are (to_list p a is) same

-- What follows from two readings, the second of which also asks that no two nodes clash, or nodes clash.
pub both_or : (p : Publication) (seen others : List (List ℕ)) (First Second : Type 0) → IsPublication p → AreAllBytes seen → AreAllBytes others
    → (IsAlone p seen → First) → (IsAlone p others → IsClashFree (IsNodeIn p) → First → Second) → HasSecondPreimage p ⊎ Second
both_or p seen others First Second is bytes more_bytes first second =
    elim (alone_or p (seen ++ (others ++ all_nodes p)) each) [
      | inl clash ↦ inl clash
      | inr alone ↦
          let rest = alone_right p seen (others ++ all_nodes p) alone in
          inr (second (alone_left p others (all_nodes p) rest) (clash_free p (alone_right p others (all_nodes p) rest)) (first (alone_left p seen (others ++ all_nodes p) alone)))
    ]
  where
    each : (other : List ℕ) → Contains (seen ++ (others ++ all_nodes p)) other → IsByteString other
    each other has = elim (Contains-append_cases seen (others ++ all_nodes p) other has) [
      | inl left ↦ inl (bytes other left)
      | inr right ↦ elim (Contains-append_cases others (all_nodes p) other right) [ inl left ↦ inl (more_bytes other left) | inr node ↦ of_nodes p is other node ]
    ]

-- ---- what a shelf has brought

some_node : (o : Option Part) (x : List ℕ) → option_map node_of o ≡ Some x → (part : Part) × (o ≡ Some part) × (node_of part ≡ x)
some_node None x is = absurd (Prim.cc)
some_node (Some part) x is = (part, refl, Prim.cc)

module _ {N : Type 0} where
  abbrev pub all_in : OutsideShelf N → List (List ℕ)
  all_in shelf = map (λ (entry : Digest × Part). node_of entry.1) shelf.brought.entries

  -- all bytes that a shelf has brought
  abbrev pub brought_in : OutsideShelf N → List (List ℕ)
  brought_in shelf = only_bytes (all_in shelf)

  pub brought_bytes : (shelf : OutsideShelf N) → AreAllBytes (brought_in shelf)
  brought_bytes shelf = stay_bytes (all_in shelf)

  pub brought_listed : (shelf : OutsideShelf N) (x : List ℕ) → HasBrought shelf x → Contains (brought_in shelf) x
  brought_listed shelf x is =
      let (part, at, e) = some_node (get digest_eq shelf.brought (key_of x)) x is in
      let listed : Contains (all_in shelf) (node_of part) = in_map (λ (entry : Digest × Part). node_of entry.1) shelf.brought.entries (key_of x, part) (Contains-from_lookup eq_is (key_of x) part shelf.brought.entries at) in
      bytes_stay (all_in shelf) x (subst (Contains (all_in shelf)) e listed) (shelf.bytes (key_of x) x is)
