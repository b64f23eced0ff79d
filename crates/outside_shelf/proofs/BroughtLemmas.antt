-- What a shelf has brought after one node more.
use Rattle.std.proofs.Common.{◌≡◌, ◌≤◌, ◌+◌, [], Bool, min, true, false, not, List, ℕ, Option, Some, None, Result, Ok, Err, refl, ap, subst, ◌∙◌, sym, arith, length, sum_by}
use Rattle.std.specs.Prelude.{IfOk, OnErr}
use Rattle.std.specs.HashMap.{HashMap, get, IsUnchanged, PutsEntry}
use Rattle.std.specs.Option.{ForSome, option_map}
use Rattle.std.specs.Str.{bytes_eq}
use Rattle.std.proofs.lemmas.List.Sorted.{sum_by_pushed}
use Rattle.std.proofs.lemmas.Slice.Eq.{bytes_eq-Decides}
use Rattle.tree_node.specs.Digests.{digest}
use Rattle.tree_node.specs.Keys.{StandsIn, digest_eq}
use Rattle.tree_node.specs.Shelves.{HasNone}
use Rattle.tree_node.specs.Parts.{node_of}
use Rattle.tree_node.specs.declared.digest.Digest.{Digest}
use Rattle.tree_node.specs.declared.part.Part.{Part}
use Rattle.tree_node.proofs.shared.MapLemmas.{not_missing}
use Rattle.outside_shelf.specs.Brought.{HasRoomFor, brought_at, brought_len, entry_len}
use Rattle.outside_shelf.specs.declared.bound.Bound.{Bound}

-- where no held node has a digest, none stands under it
pub none_there : (node_at : Digest → Option (List ℕ)) (key : Digest) (o : Option (List ℕ)) → node_at key ≡ o → ForSome (node_at key) (λ y. digest y ≡ key.0) → HasNone (StandsIn node_at) key.0 → o ≡ None
none_there node_at key None is own none = refl
none_there node_at key (Some x) is own none = absurd (not_missing node_at key x is own none)

-- a map that has no node under a key has nothing there
nothing_there : (o : Option Part) → option_map node_of o ≡ None → o ≡ None
nothing_there None is = refl
nothing_there (Some b) is = absurd (Prim.cc)

-- a node that is put under a new key adds its bytes
len_put : {S : Type 0} (old new : HashMap Digest Part S) (key : Digest) (node : Part) (was : Option Part) → was ≡ None → PutsEntry digest_eq old new key node was
    → brought_len new ≡ length (node_of node) + brought_len old
len_put old new key node None is put = sum_by_pushed entry_len (key, node) old.entries new.entries put
len_put old new key node (Some b) is put = absurd (Prim.cc)

-- what fits with more fits without it
less : (n m left most : ℕ) → n + m + left ≤ most → m + left ≤ most
less n m left most fits = omega (arith, fits)

-- the bound is kept by an insert, as it may have failed
pub room_kept : {A S : Type 0} (old new : HashMap Digest Part S) (key : Digest) (node : Part) (bound : Option Bound) (r : Result (Option Part) A)
    → IfOk r (λ was. was ≡ get digest_eq old key) → IfOk r (PutsEntry digest_eq old new key node) → OnErr r (IsUnchanged old new)
    → brought_at old key ≡ None → HasRoomFor bound old (node_of node)
    → ForSome bound (λ b. brought_len new + b.left ≤ b.most)
room_kept old new key node bound (Ok was) before put same none room b is =
    let total = len_put old new key node was (before ∙ nothing_there (get digest_eq old key) none) put in
    subst (λ (n : ℕ). n + b.left ≤ b.most) (sym total) (room b is)
room_kept old new key node bound (Err e) before put same none room b is =
    let total : brought_len new ≡ brought_len old = ap (λ (es : List (Digest × Part)). sum_by entry_len es) same in
    let fits = room b is in
    subst (λ (n : ℕ). n + b.left ≤ b.most) (sym total) (less (length (node_of node)) (brought_len old) b.left b.most fits)

-- a count to which nothing is to come is the whole one
pub all_counted : (total all : ℕ) (left : List (Digest × Part)) → left ≡ [] → total ≤ 0xffff_ffff_ffff_ffff
    → min (total + sum_by entry_len left) 0xffff_ffff_ffff_ffff ≡ min all 0xffff_ffff_ffff_ffff → total ≡ min all 0xffff_ffff_ffff_ffff
all_counted total all left none fits counted =
    let whole : min (total + 0) 0xffff_ffff_ffff_ffff ≡ min all 0xffff_ffff_ffff_ffff = subst (λ (es : List (Digest × Part)). min (total + sum_by entry_len es) 0xffff_ffff_ffff_ffff ≡ min all 0xffff_ffff_ffff_ffff) none counted in
    omega (arith, whole)

-- digests that aren't found to differ are the same
pub same_digest : (told key own : List ℕ) (differ : Bool) → differ ≡ not (bytes_eq told key) → differ ≡ false → told ≡ own → own ≡ key
same_digest told key own differ is same told_is = sym told_is ∙ (bytes_eq-Decides told key).0 (equal (bytes_eq told key) (sym is ∙ same))
  where
    equal : (b : Bool) → not b ≡ false → b ≡ true
    equal true e = refl
    equal false e = absurd (Prim.cc)
