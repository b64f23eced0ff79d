-- Entries that a tree of a publication takes in their order.
use Rattle.std.proofs.Common.{◌≡◌, ◌≢◌, ◌∙◌, ◌↔◌, ◌≤◌, ◌++◌, ◌∷◌, [], ℕ, Bool, true, false, cond, eqb, List, Option, None, Some, Result, Err, length, append_assoc, length-append, refl, sym, ap, subst, arith}
use Rattle.std.specs.List.{AllByRecursion}
use Rattle.tree_node.specs.NodeRefs.{number_of}
use Rattle.tree_node.specs.Nodes.{AreRisingFrom, Binding, keys_of}
use Rattle.tree_node.specs.Order.{IsBelow}
use Rattle.tree_node.specs.Trees.{FitsTree, HasTree, Shape, last_key}
use Rattle.tree_node.specs.declared.limits.TheConstants.{ENTRY_LIMIT}
use Rattle.tree_node.specs.declared.tree.Tree.{Tree}
use Rattle.tree_node.specs.declared.tree.Tree.TheVariants.{Backs, Cells, Objects, Tags}
use Rattle.tree_stream.specs.Streams.{IsNextKey}
use Rattle.tree_stream.specs.declared.fault.StreamFault.{StreamFault}
use Rattle.tree_stream.specs.declared.fault.StreamFault.TheVariants as streams
use Rattle.osm_keys.specs.Publications.{Publication, shape_in}
use Rattle.level_files.specs.Built.{HasEntries, Takes, with_entry, writer_of}
use Rattle.level_files.specs.declared.trees_builder.TreesBuilder.{TreesBuilder}
use Rattle.pack_compact.specs.Faults.{fault_of_push}
use Rattle.pack_compact.specs.internal.Copying.{Holding, IsFailure, IsTakenTo, with_taken}

-- ---- the next entry of a list that has a tree

next_from : (low : List ℕ) (taken : List Binding) (e : Binding) (left : List Binding) → AreRisingFrom (Some low) (keys_of (taken ++ e ∷ left)) → IsBelow (last_key (low ∷ keys_of taken)) e.key
next_from low [] e left rising = rising.0
next_from low (t ∷ ts) e left rising = next_from t.key ts e left rising.1

next_key : (taken : List Binding) (e : Binding) (left : List Binding) → AreRisingFrom None (keys_of (taken ++ e ∷ left)) → IsNextKey taken e.key
next_key [] e left rising = tt
next_key (t ∷ ts) e left rising = next_from t.key ts e left rising.1

next_fits : (taken : List Binding) (e : Binding) (left : List Binding) → AllByRecursion FitsTree (taken ++ e ∷ left) → FitsTree e
next_fits [] e left fit = fit.0
next_fits (t ∷ ts) e left fit = next_fits ts e left fit.1

next_few : (taken : List Binding) (e : Binding) (left : List Binding) → length (taken ++ e ∷ left) ≤ ENTRY_LIMIT → length taken ≢ ENTRY_LIMIT
next_few taken e left few = λ full. omega (arith, few, full, length-append taken (e ∷ left))

other_fault : (known : Option Holding) (fault : StreamFault) → fault ≢ streams.NotRising → fault ≢ streams.TooLong → fault ≢ streams.TooMany → IsFailure known (fault_of_push fault)
other_fault known streams.NotRising rising long many = absurd (rising refl)
other_fault known streams.TooLong rising long many = absurd (long refl)
other_fault known streams.TooMany rising long many = absurd (many refl)
other_fault known streams.Memory rising long many = tt
other_fault known streams.Device rising long many = tt

-- ---- what a tree has taken

with_same : (others : Tree → List Binding) (tree : Tree) (taken : List Binding) → with_taken others tree taken tree ≡ taken
with_same others Objects taken = refl
with_same others Tags taken = refl
with_same others Cells taken = refl
with_same others Backs taken = refl

one_more : (same : Bool) (taken more other : List Binding) → cond same (cond same taken other ++ more) (cond same taken other) ≡ cond same (taken ++ more) other
one_more true taken more other = refl
one_more false taken more other = refl

module _ {S M : Type 0} (p : Publication) (others : Tree → List Binding) (tree : Tree) (old new : TreesBuilder S M) (e : Binding) (left : List Binding) (has : HasTree (p.entries tree)) (taken : IsTakenTo p others tree old (e ∷ left)) where
  fault_is : {A : Type 0} (fault other : StreamFault) (result : Result A StreamFault) → result ≡ Err fault → fault ≡ other → result ≡ Err other
  fault_is fault other result is same = is ∙ ap (λ (f : StreamFault). Err f) same

  -- it is refused for memory or a device alone
  pub push_refused : {A : Type 0} (known : Option Holding) (fault : StreamFault) (result : Result A StreamFault) → result ≡ Err fault
      → ((shape : Shape) (entries : Tree → List Binding) → HasEntries old shape entries → (result ≡ Err streams.NotRising) ↔ ¬ IsNextKey (entries tree) e.key)
      → ((shape : Shape) (entries : Tree → List Binding) → HasEntries old shape entries → (result ≡ Err streams.TooLong) ↔ (IsNextKey (entries tree) e.key × ¬ FitsTree e))
      → ((shape : Shape) (entries : Tree → List Binding) → HasEntries old shape entries → (result ≡ Err streams.TooMany) ↔ (IsNextKey (entries tree) e.key × FitsTree e × (length (entries tree) ≡ ENTRY_LIMIT)))
      → IsFailure known (fault_of_push fault)
  push_refused known fault result is rising long many =
      let mine = with_taken others tree taken.taken in
      let same : mine tree ≡ taken.taken = with_same others tree taken.taken in
      let whole = subst HasTree (sym taken.all) has in
      let next : IsNextKey (mine tree) e.key = subst (λ (es : List Binding). IsNextKey es e.key) (sym same) (next_key taken.taken e left whole.rising) in
      other_fault known fault
      (λ eq. (rising (shape_in p) mine taken.has).0 (fault_is fault streams.NotRising result is eq) next)
      (λ eq. ((long (shape_in p) mine taken.has).0 (fault_is fault streams.TooLong result is eq)).1 (next_fits taken.taken e left whole.fit))
      (λ eq. next_few taken.taken e left whole.few (ap (length {A = Binding}) (sym same) ∙ ((many (shape_in p) mine taken.has).0 (fault_is fault streams.TooMany result is eq)).2))

  -- or it is taken
  pub push_taken : ((shape : Shape) (entries : Tree → List Binding) → HasEntries old shape entries → HasEntries new shape (with_entry entries tree e))
      → IsTakenTo p others tree new left
  push_taken takes =
      let now = takes (shape_in p) (with_taken others tree taken.taken) taken.has in
      record {
        taken = taken.taken ++ e ∷ [];
        has = λ other. subst (λ (es : List Binding). Takes (writer_of new other) (shape_in p) other es) (one_more (eqb (number_of tree) (number_of other)) taken.taken (e ∷ []) (others other)) (now other);
        all = append_assoc taken.taken (e ∷ []) left ∙ taken.all;
      }

-- the entries that are left are these
pub taken_to : {S M : Type 0} (p : Publication) (others : Tree → List Binding) (tree : Tree) (builder : TreesBuilder S M) (left other : List Binding) → left ≡ other → IsTakenTo p others tree builder left → IsTakenTo p others tree builder other
taken_to p others tree builder left other same is = subst (IsTakenTo p others tree builder) same is
