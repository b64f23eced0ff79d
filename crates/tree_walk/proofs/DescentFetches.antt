-- Which nodes a walk fetched on its way down: of each level different ones, and no two levels share one.
use Rattle.std.proofs.Common.{Bool, ◌≡◌, ℕ, suc, ◌<◌, ◌≤◌, List, [], ◌∷◌, ◌++◌, inl, inr, Result, Ok, Err, refl, sym, ap, subst, append_assoc, arith}
use Rattle.std.specs.List.{AllByRecursion}
use Rattle.tree_node.specs.Nodes.{level_of}
use Rattle.tree_node.specs.Outcomes.{ShelfUse}
use Rattle.tree_node.specs.Shelves.{Stays}
use Rattle.tree_node.proofs.shared.OutcomeLaws.{uses}
use Rattle.tree_walk.specs.Fetches.{AreDifferent, HasFetched, IsAmong}
use Rattle.tree_walk.specs.internal.Pendings.{FetchesBelow, FetchesLevel, IsBetweenLevels, IsOfLevel}
use Rattle.tree_walk.specs.declared.fault.WalkFault.{WalkFault}
use Rattle.tree_walk.proofs.FetchLemmas.{all_append, all_weaker, among_parts, fetched_none, fetched_then}
use Rattle.tree_walk.proofs.LevelFetches.{one_spelled}

-- what was fetched at the levels from low to below high
pub record FetchingDown (low high : ℕ) (shelf : ShelfUse) (from to : ℕ) : Type 0 where
  pub done : List (List ℕ)
  pub fetched : HasFetched shelf from to done
  pub differ : AreDifferent done
  pub so_far : AllByRecursion (IsBetweenLevels low high) done

-- different nodes, and other different ones
pub differ_append : (xs ys : List (List ℕ)) → AreDifferent xs → AreDifferent ys → ((bytes : List ℕ) → IsAmong xs bytes → ¬ IsAmong ys bytes) → AreDifferent (xs ++ ys)
differ_append [] ys first last apart = last
differ_append (x ∷ xs) ys first last apart = (
  (λ is. elim (among_parts xs ys x is) [ inl among ↦ first.0 among | inr other ↦ apart x (inl refl) other ]),
  differ_append xs ys first.1 last (λ bytes is. apart bytes (inr is)),
)

-- what holds of all holds of one of them
pub holds_of : (P : List ℕ → Type 0) (nodes : List (List ℕ)) (bytes : List ℕ) → AllByRecursion P nodes → IsAmong nodes bytes → P bytes
holds_of P [] bytes all is = absurd is
holds_of P (n ∷ ns) bytes all (inl here) = subst P (sym here) all.0
holds_of P (n ∷ ns) bytes all (inr there) = holds_of P ns bytes all.1 there

-- nodes of higher levels aren't of this one
pub levels_apart : (low high level : ℕ) (xs ys : List (List ℕ)) → level < low → AllByRecursion (IsBetweenLevels low high) xs → AllByRecursion (IsBetweenLevels 0 (suc level)) ys
    → (bytes : List ℕ) → IsAmong xs bytes → ¬ IsAmong ys bytes
levels_apart low high level xs ys lt above of_level bytes is_x is_y =
    let x = holds_of (IsBetweenLevels low high) xs bytes above is_x in
    let y = holds_of (IsBetweenLevels 0 (suc level)) ys bytes of_level is_y in
    let same : level_of x.0 ≡ level_of y.0 = ap level_of (one_spelled bytes x.0 y.0 x.1 y.1) in
    let no : ⊥ = absurd (omega (arith, lt, x.2, y.3, same)) in
    no

pub between_of : (level : ℕ) (bytes : List ℕ) → IsOfLevel level bytes → IsBetweenLevels 0 (suc level) bytes
between_of level bytes is = (is.0, is.1, omega arith, omega (arith, is.2))

pub between_from : (level high : ℕ) → level < high → (bytes : List ℕ) → IsOfLevel level bytes → IsBetweenLevels level high bytes
between_from level high lt bytes is = (is.0, is.1, omega (arith, is.2), omega (arith, is.2, lt))

pub lower : (low level high : ℕ) → low ≤ level → (bytes : List ℕ) → IsBetweenLevels level high bytes → IsBetweenLevels low high bytes
lower low level high le bytes is = (is.0, is.1, omega (arith, is.2, le), is.3)

module _ (high : ℕ) (old : List ℕ → Type 0) (from : ℕ) where
  -- at the start
  unfoldable pub down_start : (held : List ℕ → Type 0) → FetchingDown high high (uses held old old) from from
  down_start held = record { done = []; fetched = fetched_none held old old from (λ bytes. ((λ is. is), (λ is. is))); differ = tt; so_far = tt }

  -- one more level
  unfoldable pub down_step : {fixed : Bool} {A : Type 0} (value : A) (level : ℕ) (held after mid new : List ℕ → Type 0) (via to : ℕ) → level < high → FetchingDown (suc level) high (uses held old mid) from via → Stays fixed held after
      → FetchesLevel level (Ok value) (uses after mid new) via to → FetchingDown level high (uses after old new) from to
  down_step value level held after mid new via to lt so stays last = record {
    done = so.done ++ last.0;
    fetched = fetched_then held after old mid new from via to so.done last.0 stays so.fetched last.1;
    differ = differ_append so.done last.0 so.differ last.2 (levels_apart (suc level) high level so.done last.0 (omega arith) so.so_far (all_weaker (IsOfLevel level) (IsBetweenLevels 0 (suc level)) last.0 (between_of level) last.3));
    so_far = all_append (IsBetweenLevels level high) so.done last.0 (all_weaker (IsBetweenLevels (suc level) high) (IsBetweenLevels level high) so.done (lower level (suc level) high (omega arith)) so.so_far)
        (all_weaker (IsOfLevel level) (IsBetweenLevels level high) last.0 (between_from level high lt) last.3);
  }

  -- all levels
  pub down_end : {A : Type 0} (value : A) (low : ℕ) (held new : List ℕ → Type 0) (to : ℕ) → FetchingDown low high (uses held old new) from to → FetchesBelow high (Ok value) (uses held old new) from to
  down_end value low held new to so = (so.done, so.fetched, so.differ, all_weaker (IsBetweenLevels low high) (IsBetweenLevels 0 high) so.done (lower 0 low high (omega arith)) so.so_far)

  -- refused in a level
  pub down_stop : {fixed : Bool} (A B : Type 0) (fault : WalkFault) (level : ℕ) (held after mid new : List ℕ → Type 0) (via to : ℕ) → level < high → FetchingDown (suc level) high (uses held old mid) from via → Stays fixed held after
      → FetchesLevel {A = A} level (Err fault) (uses after mid new) via to → FetchesBelow {A = B} high (Err fault) (uses after old new) from to
  down_stop A B fault level held after mid new via to lt so stays last = (
    so.done ++ last.0,
    last.1,
    subst (λ (ns : List (List ℕ)). HasFetched (uses after old new) from to ns) (sym (append_assoc so.done last.0 last.1)) (fetched_then held after old mid new from via to so.done (last.0 ++ last.1) stays so.fetched last.2),
    differ_append so.done last.0 so.differ last.3 (levels_apart (suc level) high level so.done last.0 (omega arith) so.so_far (all_weaker (IsOfLevel level) (IsBetweenLevels 0 (suc level)) last.0 (between_of level) last.4)),
    all_append (IsBetweenLevels 0 high) so.done last.0 (all_weaker (IsBetweenLevels (suc level) high) (IsBetweenLevels 0 high) so.done (lower 0 (suc level) high (omega arith)) so.so_far)
        (all_weaker (IsOfLevel level) (IsBetweenLevels 0 high) last.0 (λ bytes is. lower 0 level high (omega arith) bytes (between_from level high lt bytes is)) last.4),
    last.5,
  )

  -- the leaves, whichever way they ended
  pub down_last : {fixed : Bool} {A : Type 0} (result : Result A WalkFault) (held after mid new : List ℕ → Type 0) (via to : ℕ) → 0 < high → FetchingDown 1 high (uses held old mid) from via → Stays fixed held after
      → FetchesLevel 0 result (uses after mid new) via to → FetchesBelow high result (uses after old new) from to
  down_last (Ok value) held after mid new via to lt so stays last = down_end value 0 after new to (down_step value 0 held after mid new via to lt so stays last)
  down_last {A} (Err fault) held after mid new via to lt so stays last = down_stop A A fault 0 held after mid new via to lt so stays last
