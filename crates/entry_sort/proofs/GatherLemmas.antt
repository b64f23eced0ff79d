-- Objects that are gathered.
use Rattle.std.proofs.Common.{◌≡◌, ◌↔◌, ◌∙◌, sym, ap, subst, refl, ℕ, List, [], ◌∷◌, ◌++◌, map, append_assoc, append-nil, Result, Ok, Err, IfOk, Bool, true, false}
use Rattle.std.specs.List.{Contains, IsDistinct}
use Rattle.std.specs.List.Sorted.{IsPermutation}
use Rattle.std.specs.Ordering.{eq_by_cmp}
use Rattle.std.proofs.lemmas.List.{map-append}
use Rattle.std.proofs.lemmas.List.Elements.{Contains-append_cases, Contains-append_left, Contains-append_right}
use Rattle.std.proofs.lemmas.List.Sorted.{Contains-permutation, IsPermutation-append_right, IsPermutation-sym}
use Rattle.osm_model.specs.Elements.{Element, reference, references, ref_cmp}
use Rattle.osm_model.specs.Sets.{HasDistinctReferences}
use Rattle.osm_model.specs.declared.reference.Ref.{Ref}
use Rattle.tree_node.specs.declared.tree.Tree.{Tree}
use Rattle.osm_keys.specs.Entries.{IsEntryOfSome}
use Rattle.external_sort.specs.Records.{Entry}
use Rattle.external_sort.specs.declared.sorter.Sorter.{Sorter}
use Rattle.entry_sort.specs.Holding.{HoldsEntries, HoldsTree, sorter_of}
use Rattle.entry_sort.specs.declared.entry_sorter.EntrySorter.{EntrySorter}
use Rattle.entry_sort.specs.internal.Names.{Named, named}
use Rattle.entry_sort.specs.internal.Puts.{AreApart, FlushesIf, GathersIf, Put, names_of, objects_of, put_of}
use Rattle.entry_sort.specs.declared.gathering.Gathering.{Gathering}

-- the last of some objects that differ
pub distinct_back : (xs ys : List Element) → HasDistinctReferences (xs ++ ys) → HasDistinctReferences ys
unfolding IsDistinct
distinct_back [] ys h = h
distinct_back (x ∷ xs) ys h = distinct_back xs ys h.1

pub objects-push : (puts : List Put) (line : ℕ) (o : Element) → objects_of (puts ++ put_of line o ∷ []) ≡ objects_of puts ++ o ∷ []
objects-push puts line o = map-append (λ (p : Put). p.object) puts (put_of line o ∷ [])

pub names-push : (puts : List Put) (line : ℕ) (o : Element) → names_of (puts ++ put_of line o ∷ []) ≡ names_of puts ++ named (reference o) line ∷ []
names-push [] line o = refl
names-push (p ∷ puts) line o = ap (λ (ns : List Named). named (reference p.object) p.line ∷ ns) (names-push puts line o)

-- two in the chunk have one reference
pub chunk_repeats : (puts : List Put) (done chunk : List Element) → objects_of puts ≡ done ++ chunk → (HasDistinctReferences chunk → ⊥) → AreApart puts → ⊥
chunk_repeats puts done chunk all twice apart = twice (distinct_back done chunk (subst HasDistinctReferences all apart))

-- the order of the objects is of no account
module _ {S : Type 0} (runs : S → List (List ℕ)) (in_hand : S → List ℕ) where
  pub same_entries : (sorter : EntrySorter S) (xs ys : List Element) → ((o : Element) → Contains xs o ↔ Contains ys o) → HoldsEntries runs in_hand sorter xs → HoldsEntries runs in_hand sorter ys
  same_entries sorter xs ys same h tree = record {
    records = (h tree).records;
    held = (h tree).held;
    members = λ b. (
      (λ c. let found = ((h tree).members b).0 c in (found.0, (same found.0).0 found.1, found.2)),
      (λ s. ((h tree).members b).1 (s.0, (same s.0).1 s.1, s.2)),
    );
  }

  pub chunk_held : (sorter : EntrySorter S) (done chunk set : List Element) → IsPermutation chunk set → HoldsEntries runs in_hand sorter (done ++ set) → HoldsEntries runs in_hand sorter (done ++ chunk)
  chunk_held sorter done chunk set order h =
      let moved = IsPermutation-append_right done chunk set order in
      let back = IsPermutation-sym (done ++ chunk) (done ++ set) moved in
      same_entries sorter (done ++ set) (done ++ chunk) (λ o. ((λ c. Contains-permutation (done ++ set) (done ++ chunk) o back c), (λ c. Contains-permutation (done ++ chunk) (done ++ set) o moved c))) h

-- what follows of a value that a call gives
pub if_ok : {T E : Type 0} (P Q : T → Type 0) (r : Result T E) → IfOk r P → ((x : T) → P x → Q x) → IfOk r Q
if_ok P Q (Ok x) h f = f x h
if_ok P Q (Err e) h f = tt

pub gathers_flushed : {S : Type 0} (runs : S → List (List ℕ)) (in_hand : S → List ℕ) (done : Bool) (g : Gathering S) (puts : List Put) → FlushesIf runs in_hand done g puts → GathersIf runs in_hand done g puts
gathers_flushed runs in_hand true g puts h = h.0
gathers_flushed runs in_hand false g puts h = h
