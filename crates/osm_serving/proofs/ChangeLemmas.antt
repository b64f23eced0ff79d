-- What is in force after a change file.
use Rattle.std.proofs.Common.{◌≡◌, ◌≤◌, ◌+◌, ◌-◌, ◌^◌, ◌==◌, ◌⊎◌, ◌∷◌, ◌++◌, ◌∙◌, arith, ℕ, zero, suc, Bool, true, false, List, Option, Some, None, length, refl, sym, ap, subst, inl, inr}
use Rattle.std.specs.Prelude.{IfSome, if◌then◌else◌}
use Rattle.osm_keys.specs.Publications.{Publication}
use Rattle.osm_index.specs.Snapshots.{HoldsPublication, IsAsBefore}
use Rattle.osm_keys.specs.declared.edition.Edition.{Edition}
use Rattle.osm_keys.specs.declared.edition.Edition.TheVariants as editions
use Rattle.osm_index.specs.declared.snapshot.Snapshot.{Snapshot}
use Rattle.osm_desk.specs.Contents.{Contents}
use Rattle.osm_desk.proofs.shared.StillHeld.{still_held}
use Rattle.osm_serving.specs.ChangeFiles.{HasPublishedUnder, IsReachedBy, asked_after}
use Rattle.osm_serving.specs.ChangeSources.{Watch}
use Rattle.osm_serving.specs.declared.root_line.RootLine.{RootLine}
use Rattle.osm_desk.specs.Published.{HasPublished}

-- what a refusal leaves stays in force
pub left_in_force : (root_line : RootLine) (old new : Snapshot) (p : Publication) → IsAsBefore old new → HoldsPublication old p → HasPublishedUnder root_line p new
left_in_force root_line old new p same held = (p, still_held old new p same held, inl refl)

-- what is published where a root line is looked at is published
pub published_under : (root_line : RootLine) (new : Snapshot) (p : Publication) → HasPublishedUnder root_line p new → HasPublished p (HoldsPublication new)
published_under root_line new p (q, held, inl same) = (q, held, inl same)
published_under root_line new p (q, held, inr (file, changes, holds, made, keeps)) = (q, held, inr (file, changes, holds, made, keeps.announced))

-- the same as a lookout sees it
abbrev watch_of : (C : Type 0) → C → RootLine → Watch C
watch_of C source root_line = record { source = source; root_line = root_line }

pub under_watched : (C : Type 0) (source : C) (root_line : RootLine) (watch : Watch C) (new : Snapshot) (p : Publication) → watch_of C source root_line ≡ watch → HasPublishedUnder root_line p new
    → HasPublishedUnder watch.root_line p new
under_watched C source root_line watch new p is published = subst (λ (w : Watch C). HasPublishedUnder w.root_line p new) is published

-- one connection more, and what came before it
pub reached_more : (n : ℕ) (p m : Publication) (new : Snapshot) → IsReachedBy n p m → HasPublished m (HoldsPublication new)
    → (q : Publication) × HoldsPublication new q × IsReachedBy (suc n) p q
reached_more n p m new reached (q, held, inl same) = (q, held, inl (subst (IsReachedBy n p) (sym same) reached))
reached_more n p m new reached (q, held, inr published) = (q, held, inr (m, reached, published))

-- what at most so many files make, at most more make too
reached_plus : (k n : ℕ) (p q : Publication) → IsReachedBy n p q → IsReachedBy (k + n) p q
reached_plus zero n p q by = let same : n ≡ 0 + n = omega arith in subst (λ (j : ℕ). IsReachedBy j p q) same by
reached_plus (suc k) n p q by =
    let more : IsReachedBy (suc (k + n)) p q = inl (reached_plus k n p q by) in
    let same : suc (k + n) ≡ suc k + n = omega arith in
    subst (λ (j : ℕ). IsReachedBy j p q) same more

reached_most : (n m : ℕ) (p q : Publication) → n ≤ m → IsReachedBy n p q → IsReachedBy m p q
reached_most n m p q few by =
    let same : (m - n) + n ≡ m = omega arith in
    subst (λ (j : ℕ). IsReachedBy j p q) same (reached_plus (m - n) n p q by)

-- at the end, and where the listener fails
pub reached_end : (n m : ℕ) (p : Publication) (now : Snapshot) → n ≤ m
    → (q : Publication) × HoldsPublication now q × IsReachedBy n p q
    → (q : Publication) × HoldsPublication now q × IsReachedBy m p q
reached_end n m p now few (q, held, by) = (q, held, reached_most n m p q few by)

-- one connection more: a desk that is as after the change file
pub reached_next : (n : ℕ) (p : Publication) (old mid new : Contents Snapshot)
    → ((q : Publication) × HoldsPublication old.mirror q × IsReachedBy n p q)
    → ((m : Publication) → HoldsPublication old.mirror m → HasPublished m (HoldsPublication mid.mirror))
    → new ≡ mid
    → (q : Publication) × HoldsPublication new.mirror q × IsReachedBy (n + 1) p q
reached_next n p old mid new (m, held, by) published same =
    let step : suc n ≡ n + 1 = omega arith in
    let (q, now, reached) = reached_more n p m mid.mirror by (published m held) in
    (q, subst (λ (d : Contents Snapshot). HoldsPublication d.mirror q) (sym same) now, subst (λ (j : ℕ). IsReachedBy j p q) step reached)

-- one question more at most
asked_cases : (e : Edition) (xs : List ℕ) → (asked_after e xs ≡ xs) ⊎ ((k : ℕ) × (asked_after e xs ≡ k ∷ xs))
asked_cases editions.One xs = inl refl
asked_cases (editions.Two sequence) xs = by (sequence + 1 == 2 ^ 64)
  where
    by : (b : Bool) → ((if b then xs else (sequence + 1) ∷ xs) ≡ xs) ⊎ ((k : ℕ) × ((if b then xs else (sequence + 1) ∷ xs) ≡ k ∷ xs))
    by true = inl refl
    by false = inr (sequence + 1, refl)

pub asked_more : (first old new : Option (List ℕ)) (e : Edition) (taken : ℕ)
    → IfSome first (λ before. (more : List ℕ) × (old ≡ Some (more ++ before)) × (length more ≤ taken))
    → IfSome old (λ before. new ≡ Some (asked_after e before))
    → IfSome first (λ before. (more : List ℕ) × (new ≡ Some (more ++ before)) × (length more ≤ taken + 1))
asked_more None old new e taken so asks = tt
asked_more (Some before) old new e taken (more, is, few) asks =
    let told : new ≡ Some (asked_after e (more ++ before)) = subst (λ (o : Option (List ℕ)). IfSome o (λ b. new ≡ Some (asked_after e b))) is asks in
    by (asked_cases e (more ++ before)) told
  where
    by : ((asked_after e (more ++ before) ≡ more ++ before) ⊎ ((k : ℕ) × (asked_after e (more ++ before) ≡ k ∷ (more ++ before))))
        → new ≡ Some (asked_after e (more ++ before))
        → (all : List ℕ) × (new ≡ Some (all ++ before)) × (length all ≤ taken + 1)
    by (inl none) told = (more, told ∙ ap (λ (xs : List ℕ). Some xs) none, omega arith)
    by (inr (k, one)) told = (k ∷ more, told ∙ ap (λ (xs : List ℕ). Some xs) one, omega arith)
