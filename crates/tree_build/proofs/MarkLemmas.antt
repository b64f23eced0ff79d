-- The marks of the items that an old node has, between whose first and last none is marked, and what items tell of them.
use Rattle.std.proofs.Common.{◌≡◌, ℕ, zero, suc, ◌+◌, ◌<◌, ◌≤◌, List, [], ◌∷◌, ◌++◌, length, get_or, drop, map, take, Bool, true, false, cond, Option, None, Some, refl, sym, ap, subst, ◌∙◌, arith}
use Rattle.std.specs.Prelude.{IfSome, ⊤}
use Rattle.std.specs.declared.cmp.Ordering.{Ordering}
use Rattle.std.specs.declared.cmp.Ordering.TheVariants.{Less, Equal, Greater}
use Rattle.std.proofs.lemmas.List.{length-map, map-append}
use Rattle.tree_node.specs.Order.{order}
use Rattle.tree_build.specs.Changing.{by_order, changed, changed_once, one_or_none}
use Rattle.tree_build.specs.internal.Cutting.{done_by, pending_after}
use Rattle.tree_build.specs.internal.Edits.{HaveCome}
use Rattle.tree_build.specs.declared.piece.NewPiece.{NewPiece}
use Rattle.tree_build.specs.internal.ItemChanges.{PutsKnown, change_in, changes_in}
use Rattle.tree_build.specs.declared.level_item.ItemChange.{ItemChange}
use Rattle.tree_build.proofs.ChangeLemmas.{all_append}
use Rattle.std.specs.List.{AllByRecursion}
use Rattle.std.proofs.Math.Seq.{get_or-append_seam}
use Rattle.tree_node.specs.Nodes.{Binding, Inner, Leaf, Link, Node}
use Rattle.tree_node.specs.Trees.{Two, ends_by, is_marked_entry, is_marked_link, level_at, levels, link_to, one_at_least, pieces}
use Rattle.tree_node.proofs.shared.TreeLaws.{pair_at, whole}
use Rattle.tree_build.specs.internal.Unmarked.{IsUnmarkedInside}
use Rattle.tree_build.specs.Cuts.{EndsNoSooner}
use Rattle.tree_build.specs.internal.Holding.{IsSoughtNode}
use Rattle.tree_build.proofs.DescentLemmas.{all_parts}
use Rattle.tree_build.proofs.shared.PieceCuts.{is_cut}

-- an item with others before and after it isn't marked
pub unmarked_between : {X : Type 0} (marked : X → Bool) (front : List X) (x : X) (back items : List X) → EndsNoSooner Two marked items → front ++ x ∷ back ≡ items → 1 ≤ length front → length front + 1 < length items → marked x ≡ false
unmarked_between {X} marked front x back items no_sooner whole some more =
    subst (λ (y : X). marked y ≡ false) (ap (λ (ys : List X). get_or ys (length front) x) (sym whole) ∙ get_or-append_seam front x back x) (no_sooner (length front) some more x)

none_between : {X : Type 0} (marked : X → Bool) → EndsNoSooner Two marked []
none_between marked = λ k some lt. absurd (omega (arith, lt))

leaves_inside : (tree : ℕ) (ps : List (List Binding)) → AllByRecursion (EndsNoSooner Two is_marked_entry) ps → AllByRecursion IsUnmarkedInside (map (Leaf tree) ps)
leaves_inside tree [] all = tt
leaves_inside tree (p ∷ ps) all = (all.0, leaves_inside tree ps all.1)

one_inside : (ps : List (List Binding)) → AllByRecursion (EndsNoSooner Two is_marked_entry) ps → AllByRecursion (EndsNoSooner Two is_marked_entry) (one_at_least ps)
one_inside [] all = (none_between is_marked_entry, tt)
one_inside (p ∷ ps) all = all

inner_inside : (tree level : ℕ) (ps : List (List Link)) → AllByRecursion IsUnmarkedInside (map (Inner tree level) ps)
inner_inside tree level [] = tt
inner_inside tree level (p ∷ ps) = (none_between is_marked_entry, inner_inside tree level ps)

-- so is each node of a tree
level_inside : (tree : ℕ) (entries : List Binding) (level : ℕ) → level < length (levels Two tree entries) → AllByRecursion IsUnmarkedInside (level_at (levels Two tree entries) level)
unfolding levels
level_inside tree entries zero lt = leaves_inside tree (one_at_least (pieces (ends_by Two is_marked_entry) entries)) (one_inside (pieces (ends_by Two is_marked_entry) entries) (is_cut Two is_marked_entry entries).no_sooner)
level_inside tree entries (suc level) lt =
    let links = map link_to (level_at (whole Two tree entries) level) in
    subst (λ (ns : List Node). AllByRecursion IsUnmarkedInside ns) (sym (pair_at Two tree entries level lt).1)
    (inner_inside tree (suc level) (pieces (ends_by Two is_marked_link) links))

-- and so is the node that is sought
pub sought_inside : (tree : ℕ) (entries : List Binding) (level : ℕ) → level < length (levels Two tree entries) → (wanted : List ℕ) (above : Bool) (node : Node) (last : Bool)
    → IsSoughtNode (levels Two tree entries) level wanted above node last → IsUnmarkedInside node
sought_inside tree entries level lt wanted above node last is =
    (all_parts IsUnmarkedInside is.front (node ∷ is.back) (subst (λ (ns : List Node). AllByRecursion IsUnmarkedInside ns) is.sought.whole (level_inside tree entries level lt))).1.0

-- ---- what items tell of their marks

module _ {T M : Type 0} (meaning : T → M) (marked : T → Bool) (marked_in : M → Bool) (Knows : T → Type 0) (marks : (x : T) → Knows x → marked x ≡ marked_in (meaning x)) where
  ends_meant : (n : ℕ) (x : T) → Knows x → ends_by Two marked n x ≡ ends_by Two marked_in n (meaning x)
  ends_meant n x knows = ap (λ b. ends_by Two (λ (_ : T). b) n x) (marks x knows)

  here_meant : (pending : List T) (x : T) → Knows x → ends_by Two marked (length pending + 1) x ≡ ends_by Two marked_in (length (map meaning pending) + 1) (meaning x)
  here_meant pending x knows = ends_meant (length pending + 1) x knows ∙ ap (λ n. ends_by Two marked_in (n + 1) (meaning x)) (sym (length-map pending meaning))

  -- where the items know their marks, the same pieces have ended as of what they are
  pub done_meant : (pending xs : List T) → AllByRecursion Knows xs → map (map meaning) (done_by (ends_by Two marked) pending xs) ≡ done_by (ends_by Two marked_in) (map meaning pending) (map meaning xs)
  done_meant pending [] all = refl
  done_meant pending (x ∷ xs) all = step (ends_by Two marked (length pending + 1) x) (ends_by Two marked_in (length (map meaning pending) + 1) (meaning x)) (here_meant pending x all.0) (done_meant [] xs all.1) (done_meant (pending ++ x ∷ []) xs all.1)
    where
      step : (b d : Bool) → b ≡ d
          → map (map meaning) (done_by (ends_by Two marked) [] xs) ≡ done_by (ends_by Two marked_in) [] (map meaning xs)
          → map (map meaning) (done_by (ends_by Two marked) (pending ++ x ∷ []) xs) ≡ done_by (ends_by Two marked_in) (map meaning (pending ++ x ∷ [])) (map meaning xs)
          → map (map meaning) (cond b ((pending ++ x ∷ []) ∷ done_by (ends_by Two marked) [] xs) (done_by (ends_by Two marked) (pending ++ x ∷ []) xs))
          ≡ cond d ((map meaning pending ++ meaning x ∷ []) ∷ done_by (ends_by Two marked_in) [] (map meaning xs)) (done_by (ends_by Two marked_in) (map meaning pending ++ meaning x ∷ []) (map meaning xs))
      step true true e ends goes = ap (λ (p : List M). p ∷ map (map meaning) (done_by (ends_by Two marked) [] xs)) (map-append meaning pending (x ∷ [])) ∙ ap (λ (ps : List (List M)). (map meaning pending ++ meaning x ∷ []) ∷ ps) ends
      step true false e ends goes = absurd cc
      step false true e ends goes = absurd cc
      step false false e ends goes = goes ∙ ap (λ (p : List M). done_by (ends_by Two marked_in) p (map meaning xs)) (map-append meaning pending (x ∷ []))

  -- and the same is pending
  pub pending_meant : (pending xs : List T) → AllByRecursion Knows xs → map meaning (pending_after (ends_by Two marked) pending xs) ≡ pending_after (ends_by Two marked_in) (map meaning pending) (map meaning xs)
  pending_meant pending [] all = refl
  pending_meant pending (x ∷ xs) all = step (ends_by Two marked (length pending + 1) x) (ends_by Two marked_in (length (map meaning pending) + 1) (meaning x)) (here_meant pending x all.0) (pending_meant [] xs all.1) (pending_meant (pending ++ x ∷ []) xs all.1)
    where
      step : (b d : Bool) → b ≡ d
          → map meaning (pending_after (ends_by Two marked) [] xs) ≡ pending_after (ends_by Two marked_in) [] (map meaning xs)
          → map meaning (pending_after (ends_by Two marked) (pending ++ x ∷ []) xs) ≡ pending_after (ends_by Two marked_in) (map meaning (pending ++ x ∷ [])) (map meaning xs)
          → map meaning (cond b (pending_after (ends_by Two marked) [] xs) (pending_after (ends_by Two marked) (pending ++ x ∷ []) xs))
          ≡ cond d (pending_after (ends_by Two marked_in) [] (map meaning xs)) (pending_after (ends_by Two marked_in) (map meaning pending ++ meaning x ∷ []) (map meaning xs))
      step true true e ends goes = ends
      step true false e ends goes = absurd cc
      step false true e ends goes = absurd cc
      step false false e ends goes = goes ∙ ap (λ (p : List M). pending_after (ends_by Two marked_in) p (map meaning xs)) (map-append meaning pending (x ∷ []))

-- the nodes of what the items are have come
pub come_meant : {T M : Type 0} (over : List M → Node) (meaning : T → M) (old new : List NewPiece) (pieces_made : List (List T)) (pieces_meant : List (List M)) → map (map meaning) pieces_made ≡ pieces_meant
    → HaveCome old new (map (λ (piece : List T). over (map meaning piece)) pieces_made) → HaveCome old new (map over pieces_meant)
come_meant {T} {M} over meaning old new pieces_made pieces_meant same come = subst (λ (ns : List Node). HaveCome old new ns) (both pieces_made ∙ ap (map over) same) come
  where
    both : (ps : List (List T)) → map (λ (piece : List T). over (map meaning piece)) ps ≡ map over (map (map meaning) ps)
    both [] = refl
    both (p ∷ ps) = ap (λ (ns : List Node). over (map meaning p) ∷ ns) (both ps)

-- ---- what changed items know

module _ {T : Type 0} (own : T → List ℕ) (Knows : T → Type 0) where
  put_known : (put : Option T) → IfSome put Knows → AllByRecursion Knows (one_or_none put)
  put_known None is = tt
  put_known (Some x) is = (is, tt)

  once_known : (xs : List T) (change : ItemChange T) → PutsKnown Knows change → AllByRecursion Knows xs → AllByRecursion Knows (changed_once own xs (change_in change))
  once_known [] change puts all = put_known change.put puts
  once_known (x ∷ xs) change puts all = step (order change.key.now (own x)) (once_known xs change puts all.1)
    where
      step : (o : Ordering) → AllByRecursion Knows (changed_once own xs (change_in change)) → AllByRecursion Knows (by_order o (one_or_none change.put ++ x ∷ xs) (one_or_none change.put ++ xs) (x ∷ changed_once own xs (change_in change)))
      step Less rest = all_append Knows (one_or_none change.put) (x ∷ xs) (put_known change.put puts) all
      step Equal rest = all_append Knows (one_or_none change.put) xs (put_known change.put puts) all.1
      step Greater rest = (all.0, rest)

  pub changed_known : (xs : List T) (changes : List (ItemChange T)) → AllByRecursion (PutsKnown Knows) changes → AllByRecursion Knows xs → AllByRecursion Knows (changed own xs (changes_in changes))
  changed_known xs [] puts all = all
  changed_known xs (c ∷ cs) puts all = changed_known (changed_once own xs (change_in c)) cs puts.1 (once_known xs c puts.0 all)

-- nothing is known, and nothing is to be
pub all_known : {X : Type 0} (xs : List X) → AllByRecursion (λ _. ⊤) xs
all_known [] = tt
all_known (x ∷ xs) = (tt, all_known xs)

pub puts_known : {T : Type 0} (changes : List (ItemChange T)) → AllByRecursion (PutsKnown (λ _. ⊤)) changes
puts_known [] = tt
puts_known {T} (c ∷ cs) = (by c.put, puts_known cs)
  where
    by : (put : Option T) → IfSome put (λ _. ⊤)
    by None = tt
    by (Some x) = tt

-- a part of a list of which all is so
pub all_part : {X : Type 0} (P : X → Type 0) (xs : List X) (n m : ℕ) → AllByRecursion P xs → AllByRecursion P (take n (drop m xs))
all_part P xs n zero all = front n xs all
  where
    front : (k : ℕ) (ys : List _) → AllByRecursion P ys → AllByRecursion P (take k ys)
    front zero ys all = tt
    front (suc k) [] all = tt
    front (suc k) (y ∷ ys) all = (all.0, front k ys all.1)
all_part P [] zero (suc m) all = tt
all_part P [] (suc n) (suc m) all = tt
all_part P (x ∷ xs) n (suc m) all = all_part P xs n m all.1
