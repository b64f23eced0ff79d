-- Each set of objects has a publication at each sequence, unless a tree has too many entries.
use Rattle.std.proofs.Common.{◌≡◌, ◌↔◌, ◌⊎◌, inl, inr, ℕ, ◌<◌, ◌≤◌, ◌^◌, Bool, true, false, ltb, List, [], ◌∷◌, length, Option, Some, None, IfSome, refl, sym, subst, ◌∙◌}
use Rattle.std.specs.List.{Contains, flat_map}
use Rattle.std.specs.declared.cmp.Ordering.{Ordering}
use Rattle.std.specs.declared.cmp.Ordering.TheVariants.{Less, Equal, Greater}
use Rattle.std.proofs.lemmas.Bool.{ltb-false, ltb-true}
use Rattle.light_index.proofs.LightListingLemmas.{keyed, members_are}
use Rattle.light_index.specs.LightPublications.{HasTooManyLight, IsLightPublicationOf, LightPublication}
use Rattle.light_index.specs.internal.LightListing.{light_entries_from}
use Rattle.osm_index.specs.EntryLists.{IsKeyed}
use Rattle.osm_keys.proofs.shared.Members.{first_or_in_rest, here, in_rest}
use Rattle.osm_keys.specs.Entries.{AreEntriesOf}
use Rattle.osm_keys.specs.Grains.{Lines}
use Rattle.osm_model.specs.Elements.{Element}
use Rattle.osm_model.specs.Sets.{IsObjectSet}
use Rattle.tree_node.specs.Nodes.{AreRisingFrom, Binding, keys_of}
use Rattle.tree_node.specs.Order.{IsBelow, order}
use Rattle.tree_node.specs.declared.limits.TheConstants.{ENTRY_LIMIT}
use Rattle.tree_node.specs.declared.tree.Tree.{Tree}
use Rattle.tree_node.specs.declared.tree.Tree.TheVariants.{Objects, Tags, Cells, Backs}
use Rattle.tree_node.specs.internal.OrderLemmas.{order_above, order_same}

-- ---- entries put in order, one after the other

-- what is in the list is this entry or one of those
abbrev Adds : List Binding → Binding → List Binding → Type 0
Adds more b xs = (y : Binding) → Contains more y ↔ ((y ≡ b) ⊎ Contains xs y)

-- entries by rising key with one more among them
abbrev HasMore : Option (List ℕ) → Binding → List Binding → Type 0
HasMore low b xs = (more : List Binding) × AreRisingFrom low (keys_of more) × Adds more b xs

in_front : (b : Binding) (xs : List Binding) → Adds (b ∷ xs) b xs
in_front b xs y = (
  (λ h. elim (first_or_in_rest b xs y h) [ inl e ↦ inl (sym e) | inr there ↦ inr there ]),
  (λ h. elim h [ inl e ↦ subst (λ (z : Binding). Contains (b ∷ xs) z) (sym e) (here b xs) | inr there ↦ in_rest b xs y there ]),
)

-- the entry is there already
is_there : (b x : Binding) (xs : List Binding) → x ≡ b → Adds (x ∷ xs) b (x ∷ xs)
is_there b x xs same y = (
  (λ h. inr h),
  (λ h. elim h [ inl e ↦ subst (λ (z : Binding). Contains (x ∷ xs) z) (same ∙ sym e) (here x xs) | inr there ↦ there ]),
)

-- it comes later
later : (b x : Binding) (more xs : List Binding) → Adds more b xs → Adds (x ∷ more) b (x ∷ xs)
later b x more xs adds y = (
  (λ h. elim (first_or_in_rest x more y h) [
    | inl e ↦ inr (subst (λ (z : Binding). Contains (x ∷ xs) z) e (here x xs))
    | inr there ↦ elim ((adds y).0 there) [ inl e ↦ inl e | inr old ↦ inr (in_rest x xs y old) ]
  ]),
  (λ h. elim h [
    | inl e ↦ in_rest x more y ((adds y).1 (inl e))
    | inr old ↦ elim (first_or_in_rest x xs y old) [
      | inl e ↦ subst (λ (z : Binding). Contains (x ∷ more) z) e (here x more)
      | inr there ↦ in_rest x more y ((adds y).1 (inr there))
    ]
  ]),
)

-- one more entry, where an entry with its key is it
one_more : (low : Option (List ℕ)) (b : Binding) (xs : List Binding) → IfSome low (λ l. IsBelow l b.key) → AreRisingFrom low (keys_of xs) → ((x : Binding) → Contains xs x → x.key ≡ b.key → x ≡ b) → HasMore low b xs
one_more low b [] above up one = (b ∷ [], (above, tt), in_front b [])
one_more low b (x ∷ xs) above up one =
    by (λ is. one_more (Some x.key) b xs (order_above b.key x.key is) up.1 (λ y there. one y (in_rest x xs y there))) (order b.key x.key) refl
  where
    by : (order b.key x.key ≡ Greater → HasMore (Some x.key) b xs) → (o : Ordering) → order b.key x.key ≡ o → HasMore low b (x ∷ xs)
    by rest Less is = (b ∷ x ∷ xs, (above, (is, up.1)), in_front b (x ∷ xs))
    by rest Equal is = (x ∷ xs, up, is_there b x xs (one x (here x xs) (sym (order_same b.key x.key is))))
    by rest Greater is = let more = rest is in (x ∷ more.0, (up.0, more.1), later b x more.0 xs more.2)

-- the entries of a list by rising key, each once
abbrev HasOrder : List Binding → Type 0
HasOrder list = (sorted : List Binding) × AreRisingFrom None (keys_of sorted) × ((b : Binding) → Contains sorted b ↔ Contains list b)

in_order : (list : List Binding) → IsKeyed list → HasOrder list
in_order [] one = ([], tt, λ b. ((λ h. h), (λ h. h)))
in_order (b ∷ list) one =
    let sorted = in_order list (λ x y is_x is_y. one x y (in_rest b list x is_x) (in_rest b list y is_y)) in
    let more = one_more None b sorted.0 tt sorted.1 (λ x there. one x b (in_rest b list x ((sorted.2 x).0 there)) (here b list)) in (
      more.0,
      more.1,
      λ y. (
        (λ h. elim ((more.2 y).0 h) [ inl e ↦ (in_front b list y).1 (inl e) | inr there ↦ in_rest b list y ((sorted.2 y).0 there) ]),
        (λ h. elim ((in_front b list y).0 h) [ inl e ↦ (more.2 y).1 (inl e) | inr there ↦ (more.2 y).1 (inr ((sorted.2 y).1 there)) ]),
      ),
    )

-- ---- publications

module _ (objects : List Element) (set : IsObjectSet objects) where
  -- the entries of a tree, few enough
  abbrev HasFew : Tree → Type 0
  HasFew tree = (entries : List Binding) × AreEntriesOf Lines objects tree entries × (length entries ≤ ENTRY_LIMIT)

  decide : (tree : Tree) (entries : List Binding) → AreEntriesOf Lines objects tree entries → (many : Bool) → ltb ENTRY_LIMIT (length entries) ≡ many → HasTooManyLight objects ⊎ HasFew tree
  decide tree entries are true is = inl (tree, entries, are, ltb-true ENTRY_LIMIT (length entries) is)
  decide tree entries are false is = inr (entries, are, ltb-false ENTRY_LIMIT (length entries) is)

  few_or_many : (tree : Tree) → HasTooManyLight objects ⊎ HasFew tree
  few_or_many tree =
      let sorted = in_order (flat_map (light_entries_from tree) objects) (keyed objects set tree) in
      let are : AreEntriesOf Lines objects tree sorted.0 = record {
        rising = sorted.1;
        members = λ b. let given = sorted.2 b in let meant = members_are objects tree b in ((λ h. meant.0 (given.0 h)), (λ h. given.1 (meant.1 h)));
      } in
      decide tree sorted.0 are (ltb ENTRY_LIMIT (length sorted.0)) refl

  module _ (sequence : ℕ) (fits : sequence < 2 ^ 64) where
    of_four : (all : (tree : Tree) → HasFew tree) → (p : LightPublication) × IsLightPublicationOf objects sequence p
    of_four all = (
      record { objects = objects; sequence = sequence; entries = λ tree. (all tree).0 },
      record { published = record { set = set; lists = λ tree. (all tree).1; few = λ tree. (all tree).2; sequence = fits }; same_objects = refl; same_sequence = refl },
    )

    by_tree : HasFew Objects → HasFew Tags → HasFew Cells → HasFew Backs → (tree : Tree) → HasFew tree
    by_tree a b c d Objects = a
    by_tree a b c d Tags = b
    by_tree a b c d Cells = c
    by_tree a b c d Backs = d

    pub too_many_or_some : HasTooManyLight objects ⊎ ((p : LightPublication) × IsLightPublicationOf objects sequence p)
    too_many_or_some =
        elim (few_or_many Objects) [
          | inl many ↦ inl many
          | inr a ↦ elim (few_or_many Tags) [
            | inl many ↦ inl many
            | inr b ↦ elim (few_or_many Cells) [
              | inl many ↦ inl many
              | inr c ↦ elim (few_or_many Backs) [ inl many ↦ inl many | inr d ↦ inr (of_four (by_tree a b c d)) ]
            ]
          ]
        ]
