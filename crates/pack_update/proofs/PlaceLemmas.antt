-- Places of nodes.
use Rattle.std.proofs.Common.{◌≡◌, ◌⊎◌, inl, inr, ◌<◌, ◌≤◌, ◌+◌, ◌-◌, ◌*◌, ◌^◌, ℕ, List, [], ◌∷◌, ◌++◌, Bool, true, false, cond, Option, Some, None, IsSome, length, refl, sym, ap, subst, ◌∙◌, arith, length-append}
use Rattle.std.specs.List.{Contains}
use Rattle.std.specs.Option.{option_and_then, option_or}
use Rattle.std.specs.Prelude.{is_some, nat_lt, unwrap_or}
use Rattle.std.specs.Str.{bytes_eq}
use Rattle.std.proofs.lemmas.Slice.Eq.{bytes_eq-Decides}
use Rattle.tree_node.specs.Digests.{digest}
use Rattle.osm_keys.proofs.shared.Members.{first_or_in_rest, none}
use Rattle.node_pack.specs.Additions.{earlier_place, if_before}
use Rattle.node_pack.specs.Further.{first_at, further, further_header, further_len, further_records, place_beside}
use Rattle.node_pack.specs.Headers.{header_with}
use Rattle.node_pack.specs.Known.{IsPlaced, key_with}
use Rattle.node_pack.specs.Packs.{Kept, no_place, place_from, record_len}
use Rattle.node_pack.specs.Sources.{IsOver, place_known}
use Rattle.node_pack.specs.declared.header.TheConstants.{FURTHER_VERSION}
use Rattle.node_pack.specs.declared.place.Place.{Place}
use Rattle.node_pack.specs.declared.source.PackSource.{PackSource}
use Rattle.node_pack.proofs.shared.RecordPlaces.{header_long}
use Rattle.pack_files.specs.Joined.{AreShort}

either : (b : Bool) (place : Place) (rest : Option Place) → IsSome rest → IsSome (cond b (Some place) rest)
either true place rest some = refl
either false place rest some = some

-- a listed node is found
pub place_found : (at : ℕ) (nodes : List Kept) (kept : Kept) → Contains nodes kept → IsSome (place_from at nodes (digest kept.bytes))
place_found at [] kept is_in = absurd (none kept is_in)
place_found at (first ∷ others) kept is_in =
    let here : Place = record { at = at; len = record_len first } in
    let rest : Option Place = place_from (at + record_len first) others (digest kept.bytes) in
    elim (first_or_in_rest first others kept is_in) [
      | inl e ↦ ap (λ (b : Bool). is_some (cond b (Some here) rest)) ((bytes_eq-Decides (digest first.bytes) (digest kept.bytes)).1 (ap (λ (k : Kept). digest k.bytes) e))
      | inr more ↦ either (bytes_eq (digest first.bytes) (digest kept.bytes)) here rest (place_found (at + record_len first) others kept more)
    ]

-- one place or the other
pub or_some : (a b : Option Place) → IsSome a ⊎ IsSome b → IsSome (option_or a b)
or_some None b (inl e) = absurd (Prim.cc)
or_some None b (inr e) = e
or_some (Some place) b e = refl

some_is : (a b : Place) → Some a ≡ Some b → a ≡ b
some_is a b e = Prim.cc

-- the place of a placed node is near
pub near_is : (places : List ℕ → Option Place) (key : List ℕ) (place : Place) → places key ≡ Some place → IsPlaced places (2 ^ 64 - 1) key → place.at < 2 ^ 64 - 1
near_is places key place is placed = subst (λ (p : Place). p.at < 2 ^ 64 - 1) (some_is placed.place place (sym placed.is ∙ is)) placed.near

-- the root's place beside other files is that of its node in the new one
pub root_beside : (number : ℕ) (nodes : List Kept) (old : List ℕ → Option Place) (root : List ℕ) → IsSome (place_from (first_at number) nodes root)
    → place_beside number nodes old root ≡ Some (unwrap_or (place_from (first_at number) nodes root) no_place)
root_beside number nodes old root some = by (place_from (first_at number) nodes root) refl some
  where
    by : (o : Option Place) → place_from (first_at number) nodes root ≡ o → IsSome o → place_beside number nodes old root ≡ Some (unwrap_or (place_from (first_at number) nodes root) no_place)
    by None e none = absurd (Prim.cc)
    by (Some place) e there = ap (λ (o : Option Place). option_or o (old root)) e ∙ sym (ap (λ (o : Option Place). Some (unwrap_or o no_place)) e)

-- with one more short file all are short
pub short_more : (contents : List (List ℕ)) (file : List ℕ) → AreShort contents → length file ≤ 2 ^ 48 → AreShort (contents ++ file ∷ [])
short_more [] file all short = (short, tt)
short_more (first ∷ others) file all short = (all.0, short_more others file all.1 short)

-- a further file is as long as its header says
pub further_size : (number : ℕ) (old : List ℕ → Option Place) (root : List ℕ) (nodes : List Kept) → length root ≡ 32 → length (further number old root nodes) ≡ further_len number old nodes
unfolding further
further_size number old root nodes wide =
    omega (arith, length-append (header_with FURTHER_VERSION (further_header number old root nodes)) (further_records number old nodes), header_long FURTHER_VERSION (further_header number old root nodes) wide)

given_is : (b : Bool) (found place : Place) → cond b (Some found) None ≡ Some place → Some found ≡ Some place
given_is true found place same = same
given_is false found place same = absurd (Prim.cc)

-- an earlier place that a source knows is one of those that it is over
pub earlier_true : {F : Type 0} (reads : F → List ℕ → Type 0) (number : ℕ) (source : PackSource F) (places : List ℕ → Option Place) (root : List ℕ) (nodes : List Kept) → IsOver reads places source root nodes
    → (key : List ℕ) (place : Place) → earlier_place number source key ≡ Some place → places key ≡ Some place
earlier_true reads number source places root nodes over key place is = by (place_known source key) refl is
  where
    by : (o : Option Place) → place_known source key ≡ o → option_and_then (if_before number) o ≡ Some place → places key ≡ Some place
    by None e early = absurd (Prim.cc)
    by (Some found) e early = over.trues (key_with key) place (e ∙ given_is (nat_lt found.at (number * 2 ^ 48)) found place early)
