-- The files of the next publication.
use Rattle.std.proofs.Common.{◌≡◌, ◌↔◌, inl, inr, ◌≤◌, ◌-◌, ◌^◌, ℕ, List, [], ◌∷◌, ◌++◌, Bool, true, false, cond, Option, Some, None, IsSome, length, map, refl, sym, ap, subst, ◌∙◌}
use Rattle.std.specs.List.{AllByRecursion, Contains}
use Rattle.std.specs.Prelude.{is_some, unwrap_or}
use Rattle.std.proofs.lemmas.Bool.{cases_Bool}
use Rattle.std.proofs.lemmas.List.Elements.{Contains-append_cases}
use Rattle.tree_build.specs.Rebuilding.{IsAmong}
use Rattle.tree_node.specs.Digests.{digest}
use Rattle.osm_keys.specs.Publications.{IsNodeIn, IsPublication, Publication, manifest_of, root_of}
use Rattle.osm_keys.proofs.shared.EntriesFit.{all_from}
use Rattle.osm_keys.proofs.shared.Members.{from_map, in_map}
use Rattle.node_pack.specs.Further.{IsAdded, IsFurther, first_at, place_beside}
use Rattle.node_pack.specs.Known.{IsPlaced}
use Rattle.node_pack.specs.Packs.{HasChildren, Kept, no_place, place_from}
use Rattle.node_pack.specs.Placed.{HasNodesAt}
use Rattle.node_pack.specs.declared.place.Place.{Place}
use Rattle.node_pack.proofs.shared.RecordPlaces.{of_each}
use Rattle.pack_files.specs.Joined.{joined}
use Rattle.pack_update.specs.Files.{AreFilesOf}
use Rattle.pack_update.specs.internal.Updating.{IsAlone}
use Rattle.pack_update.proofs.NodeLists.{all_nodes, among, among_in, among_key, among_true, contained, from_list, is_among, kept_all, kept_of, kept_own, key_among, stays_kept, to_list}
use Rattle.pack_update.proofs.PlaceLemmas.{near_is, or_some, place_found, root_beside, short_more}
use Rattle.pack_update.proofs.TreeChildren.{IsDigestIn, children_in}

not_both : (t : Bool) → t ≡ true → t ≡ false → ⊥
not_both t p q = Prim.cc

-- Beside files of one publication comes one with just the nodes that the next one has and it hasn't.
module _ (p q : Publication) (contents : List (List ℕ)) (manifest : Place) (alone : IsAlone p (all_nodes q)) (had : AreFilesOf contents p manifest)
    (bytes : List (List ℕ)) (new : (x : List ℕ) → IsAmong bytes x ↔ (IsNodeIn q x × ¬ IsNodeIn p x)) (added : List Kept) (same : map (λ (kept : Kept). kept.bytes) added ≡ bytes) where
  is_new : (kept : Kept) → Contains added kept → IsNodeIn q kept.bytes × ¬ IsNodeIn p kept.bytes
  is_new kept is_in = (new kept.bytes).0 (is_among bytes kept.bytes (subst (λ (l : List (List ℕ)). Contains l kept.bytes) same (in_map (λ (k : Kept). k.bytes) added kept is_in)))

  -- what stands at an old place is a node of the old publication
  old_node : (kept : Kept) → Contains had.nodes kept → IsNodeIn p kept.bytes
  old_node kept is_in = of_each (λ (k : Kept). IsNodeIn p k.bytes) had.nodes kept had.own is_in

  one_fresh : (kept : Kept) → Contains added kept → had.places (digest kept.bytes) ≡ None
  one_fresh kept is_in = by (had.places (digest kept.bytes)) refl
    where
      by : (o : Option Place) → had.places (digest kept.bytes) ≡ o → had.places (digest kept.bytes) ≡ None
      by None e = e
      by (Some place) e =
          let has = had.are (digest kept.bytes) place e in
          let old = old_node has.kept has.is_in in
          let one = alone has.kept.bytes kept.bytes old (to_list q kept.bytes (is_new kept is_in).0) (sym has.has_digest) in
          absurd ((is_new kept is_in).1 (subst (IsNodeIn p) (sym one) old))

  -- no new node has an old place
  pub fresh : AllByRecursion (λ (kept : Kept). had.places (digest kept.bytes) ≡ None) added
  fresh = all_from (λ (kept : Kept). had.places (digest kept.bytes) ≡ None) added one_fresh

  module _ (published : IsPublication q) (number : ℕ) (file : List ℕ) (is : IsFurther file number had.places (root_of q) added) where
    abbrev pub beside : List ℕ → Option Place
    beside = place_beside number added had.places

    abbrev pub nodes : List Kept
    nodes = added ++ had.nodes

    -- the places of the next publication's nodes
    abbrev pub fewer : List ℕ → Option Place
    fewer key = cond (among (map digest (all_nodes q)) key) (beside key) None

    pub agree : (key : List ℕ) (place : Place) → fewer key ≡ Some place → beside key ≡ Some place
    agree key place e = by (among (map digest (all_nodes q)) key) e
      where
        by : (b : Bool) → cond b (beside key) None ≡ Some place → beside key ≡ Some place
        by true e = e
        by false e = absurd (Prim.cc)

    known : (key : List ℕ) → IsSome (fewer key) → (x : List ℕ) × IsNodeIn q x × (digest x ≡ key)
    known key some = by (among (map digest (all_nodes q)) key) refl some
      where
        by : (b : Bool) → among (map digest (all_nodes q)) key ≡ b → IsSome (cond b (beside key) None) → (x : List ℕ) × IsNodeIn q x × (digest x ≡ key)
        by true hit there = let (x, is_in, e) = among_key (all_nodes q) key hit in (x, from_list q x is_in, e)
        by false miss there = absurd (Prim.cc)

    -- each of them stands in the new file or in an old one
    placed : (x : List ℕ) → IsNodeIn q x → IsSome (beside (digest x))
    placed x in_q =
        let front = place_from (first_at number) added (digest x) in
        elim (cases_Bool (among (all_nodes p) x)) [
          | inl hit ↦ or_some front (had.places (digest x)) (inr (had.all x (from_list p x (among_in (all_nodes p) x hit))))
          | inr miss ↦
              let in_new = contained bytes x ((new x).1 (in_q, (λ in_p. not_both (among (all_nodes p) x) (among_true (all_nodes p) x (to_list p x in_p)) miss))) in
              let (kept, is_in, e) = from_map (λ (k : Kept). k.bytes) added x (subst (λ (l : List (List ℕ)). Contains l x) (sym same) in_new) in
              or_some front (had.places (digest x)) (inl (subst (λ (b : List ℕ). IsSome (place_from (first_at number) added (digest b))) (sym e) (place_found (first_at number) added kept is_in)))
        ]

    some_fewer : (x : List ℕ) → IsNodeIn q x → IsSome (fewer (digest x))
    some_fewer x in_q = ap (λ (b : Bool). is_some (cond b (beside (digest x)) None)) (key_among (all_nodes q) x (to_list q x in_q)) ∙ placed x in_q

    -- what stands at one of these places is a node of the next publication
    own_node : (kept : Kept) → Contains nodes kept → IsSome (fewer (digest kept.bytes)) → IsNodeIn q kept.bytes
    own_node kept is_in some =
        let (x, in_q, e) = known (digest kept.bytes) some in
        elim (Contains-append_cases added had.nodes kept is_in) [
          | inl more ↦ (is_new kept more).0
          | inr old ↦ subst (IsNodeIn q) (alone kept.bytes x (old_node kept old) (to_list q x in_q) e) in_q
        ]

    -- and so are its children
    pub closed : (kept : Kept) → Contains nodes kept → HasChildren kept.bytes kept.children → IsSome (fewer (digest kept.bytes)) → AllByRecursion (λ (child : List ℕ). IsSome (fewer child)) kept.children
    closed kept is_in has some = each kept.children (children_in q published kept.bytes kept.children (own_node kept is_in some) has)
      where
        each : (keys : List (List ℕ)) → AllByRecursion (IsDigestIn q published) keys → AllByRecursion (λ (child : List ℕ). IsSome (fewer child)) keys
        each [] all = tt
        each (key ∷ keys) all = (subst (λ (k : List ℕ). IsSome (fewer k)) all.0.2 (some_fewer all.0.0 all.0.1), each keys all.1)

    one_listed : (kept : Kept) → Contains nodes kept → HasChildren kept.bytes kept.children
    one_listed kept is_in =
        elim (Contains-append_cases added had.nodes kept is_in) [
          | inl more ↦ (of_each (IsAdded number had.places added) added kept is.added more).children
          | inr old ↦ of_each (λ (k : Kept). HasChildren k.bytes k.children) had.nodes kept had.listed old
        ]

    module _ (at : HasNodesAt (joined (contents ++ file ∷ [])) (2 ^ 64 - 1) fewer nodes) where
      kept_at : HasNodesAt (joined (contents ++ file ∷ [])) (2 ^ 64 - 1) fewer (kept_of (all_nodes q) nodes)
      kept_at key place e =
          let has = at key place e in
          let some : IsSome (fewer (digest has.kept.bytes)) = ap (λ (o : Option Place). is_some o) (ap fewer has.has_digest ∙ e) in
          record {
            kept = has.kept;
            is_in = stays_kept (all_nodes q) nodes has.kept has.is_in (to_list q has.kept.bytes (own_node has.kept has.is_in some));
            has_digest = has.has_digest;
            children = has.children;
            placed = has.placed;
            short = has.short;
            stands = has.stands;
            len = has.len;
            within = has.within;
          }

      -- all files have the nodes of the next publication
      pub next_files : (place : Place) → place ≡ unwrap_or (place_from (first_at number) added (root_of q)) no_place → length file ≤ 2 ^ 48 → IsPlaced beside (2 ^ 64 - 1) (root_of q) → AreFilesOf (contents ++ file ∷ []) q place
      next_files place e short root =
          let stands : beside (root_of q) ≡ Some place = root_beside number added had.places (root_of q) is.rooted ∙ ap (λ (x : Place). Some x) (sym e) in
          record {
            places = fewer;
            nodes = kept_of (all_nodes q) nodes;
            short = short_more contents file had.short short;
            are = kept_at;
            own = kept_own (IsNodeIn q) (all_nodes q) (from_list q) nodes;
            listed = kept_all (λ (k : Kept). HasChildren k.bytes k.children) (all_nodes q) nodes (all_from (λ (k : Kept). HasChildren k.bytes k.children) nodes one_listed);
            all = some_fewer;
            rooted = ap (λ (b : Bool). cond b (beside (root_of q)) None) (key_among (all_nodes q) (manifest_of q) (to_list q (manifest_of q) (inl refl))) ∙ stands;
            near = near_is beside (root_of q) place stands root;
          }
