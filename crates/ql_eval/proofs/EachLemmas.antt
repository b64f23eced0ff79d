-- What is asked for each of several things, one more at a time.
use Rattle.std.proofs.Common.{◌≡◌, ◌⊎◌, inl, inr, ℕ, ◌+◌, ◌<◌, ◌≤◌, List, [], ◌∷◌, ◌++◌, length, take, drop, get_or, sym, ap, subst, ◌∙◌}
use Rattle.std.specs.List.{Contains}
use Rattle.std.proofs.lemmas.List.{get_or_default, take-append-drop, take_all, take_more}
use Rattle.std.proofs.lemmas.List.Elements.{Contains-append_left, Contains-append_right}
use Rattle.osm_keys.specs.Publications.{Publication}
use Rattle.osm_keys.proofs.shared.Members.{here, none}
use Rattle.ref_sets.proofs.shared.Adding.{adds_more}
use Rattle.ref_sets.specs.Adding.{Adds, From}
use Rattle.ql_eval.specs.Questions.{Ask, NeededBy, NeedsAsk}
use Rattle.ql_eval.proofs.NameLemmas.{last_or_before}

-- ---- more asks need more nodes

pub needed_as : {p : Publication} {Some All : Ask → Type 0} → ((ask : Ask) → Some ask → All ask) → (x : List ℕ) → NeededBy p Some x → NeededBy p All x
needed_as more x needs = record { ask = needs.ask; asked = more needs.ask needs.asked; needs = needs.needs }

pub needed_one : {p : Publication} {All : Ask → Type 0} (ask : Ask) → All ask → (x : List ℕ) → NeedsAsk p ask x → NeededBy p All x
needed_one ask asked x needs = record { ask = ask; asked = asked; needs = needs }

pub one_needed : {p : Publication} (ask : Ask) (x : List ℕ) → NeededBy p (λ (a : Ask). a ≡ ask) x → NeedsAsk p ask x
one_needed {p = p} ask x needs = subst (λ (a : Ask). NeedsAsk p a x) needs.asked needs.needs

pub needed_or : {p : Publication} {These Those : Ask → Type 0} (x : List ℕ) → NeededBy p (λ ask. These ask ⊎ Those ask) x → NeededBy p These x ⊎ NeededBy p Those x
needed_or x needs = elim needs.asked [
  | inl one ↦ inl (record { ask = needs.ask; asked = one; needs = needs.needs })
  | inr other ↦ inr (record { ask = needs.ask; asked = other; needs = needs.needs })
]

-- ---- one thing more

module _ {A : Type 0} (Asks : A → Ask → Type 0) (p : Publication) (xs : List A) where
  pub none_needed : (x : List ℕ) → NeededBy p (From (take 0 xs) Asks) x → ⊥
  none_needed x needs = let (a, has, asks) = needs.asked in none a has

  module _ (k : ℕ) where
    pub front_all : (x : List ℕ) → NeededBy p (From (take k xs) Asks) x → NeededBy p (From xs Asks) x
    front_all = needed_as (λ ask (a, has, asks). (a, subst (λ (l : List A). Contains l a) (take-append-drop k xs) (Contains-append_left (take k xs) (drop k xs) a has), asks))

    pub all_front : length xs ≤ k → (x : List ℕ) → NeededBy p (From xs Asks) x → NeededBy p (From (take k xs) Asks) x
    all_front past x needs = subst (λ (l : List A). NeededBy p (From l Asks) x) (sym (take_all k xs past)) needs

    module _ (a : A) (lt : k < length xs) (is : a ≡ get_or xs k a) where
      one_more : take (k + 1) xs ≡ take k xs ++ a ∷ []
      one_more = take_more xs k a lt ∙ ap (λ (y : A). take k xs ++ y ∷ []) (sym is)

      pub front_needs : (x : List ℕ) → NeededBy p (From (take k xs) Asks) x → NeededBy p (From (take (k + 1) xs) Asks) x
      front_needs = needed_as (λ ask (b, has, asks). (b, subst (λ (l : List A). Contains l b) (sym one_more) (Contains-append_left (take k xs) (a ∷ []) b has), asks))

      pub next_needs : (x : List ℕ) → NeededBy p (Asks a) x → NeededBy p (From (take (k + 1) xs) Asks) x
      next_needs = needed_as (λ ask asks. (a, subst (λ (l : List A). Contains l a) (sym one_more) (Contains-append_right (take k xs) (a ∷ []) a (here a [])), asks))

      pub next_all : (x : List ℕ) → NeededBy p (Asks a) x → NeededBy p (From xs Asks) x
      next_all = needed_as (λ ask asks. (a, (k, lt, sym is), asks))

      pub needs_split : (x : List ℕ) → NeededBy p (From (take (k + 1) xs) Asks) x → NeededBy p (From (take k xs) Asks) x ⊎ NeededBy p (Asks a) x
      needs_split x needs =
          let (b, has, asks) = needs.asked in
          elim (last_or_before (take k xs) a b (subst (λ (l : List A). Contains l b) one_more has)) [
            | inl before ↦ inl (record { ask = needs.ask; asked = (b, before, asks); needs = needs.needs })
            | inr last ↦ inr (record { ask = needs.ask; asked = subst (λ (c : A). Asks c needs.ask) (sym last) asks; needs = needs.needs })
          ]

-- what a loop adds, from its next item
pub adds_next : {A B : Type 0} (xs : List B) (P : B → A → Type 0) (k : ℕ) (d : B) → k < length xs → {old mid new : List A}
    → Adds old mid (From (take k xs) P) → Adds mid new (P (get_or xs k d)) → Adds old new (From (take (k + 1) xs) P)
adds_next xs P k d lt before one = adds_more xs P k (get_or xs k d) lt (get_or_default xs k d (get_or xs k d) lt) before one
