-- What a list of items holds, and lists of items with rising keys.
use Rattle.std.proofs.Common.{◌≡◌, ◌≢◌, ◌⊎◌, inl, inr, ℕ, suc, ◌+◌, List, [], ◌∷◌, ◌++◌, length, map, Option, Some, None, refl, sym, ap, subst, ◌∙◌, arith}
use Rattle.std.specs.List.{AllByRecursion, Contains}
use Rattle.std.specs.Prelude.{IfSome}
use Rattle.tree_build.specs.internal.Weaving.{IsIn}
use Rattle.tree_build.proofs.WeaveLemmas.{above_low}
use Rattle.tree_node.specs.Nodes.{AreRisingFrom, Binding}
use Rattle.tree_node.specs.Order.{IsBelow}
use Rattle.tree_node.specs.internal.OrderLemmas.{not_itself, order_trans}
use Rattle.tree_node.proofs.shared.TreeSame.{same_or_not}
use Rattle.osm_keys.proofs.shared.Members.{first_or_in_rest, here, in_rest, none}

-- ---- what a list holds

module _ {X : Type 0} where
  pub in_list : (xs : List X) (n : X) → IsIn n xs → Contains xs n
  in_list [] n is = absurd is
  in_list (x ∷ xs) n is = elim is [
    | inl first ↦ subst (λ (y : X). Contains (x ∷ xs) y) (sym first) (here x xs)
    | inr later ↦ in_rest x xs n (in_list xs n later)
  ]

  pub from_list : (xs : List X) (n : X) → Contains xs n → IsIn n xs
  from_list [] n is = none n is
  from_list (x ∷ xs) n is = elim (first_or_in_rest x xs n is) [ inl first ↦ inl (sym first) | inr later ↦ inr (from_list xs n later) ]

  pub in_first : (n : X) (xs ys : List X) → IsIn n xs → IsIn n (xs ++ ys)
  in_first n [] ys is = absurd is
  in_first n (x ∷ xs) ys is = elim is [ inl first ↦ inl first | inr later ↦ inr (in_first n xs ys later) ]

  pub in_second : (n : X) (xs ys : List X) → IsIn n ys → IsIn n (xs ++ ys)
  in_second n [] ys is = is
  in_second n (x ∷ xs) ys is = inr (in_second n xs ys is)

  pub in_either : (n : X) (xs ys : List X) → IsIn n (xs ++ ys) → IsIn n xs ⊎ IsIn n ys
  in_either n [] ys is = inr is
  in_either n (x ∷ xs) ys is = elim is [ inl first ↦ inl (inl first) | inr later ↦ elim (in_either n xs ys later) [ inl a ↦ inl (inr a) | inr b ↦ inr b ] ]

  -- what is so of all is so of each
  pub each_of : (P : X → Type 0) (xs : List X) → AllByRecursion P xs → (n : X) → IsIn n xs → P n
  each_of P [] all n is = absurd is
  each_of P (x ∷ xs) all n is = elim is [ inl first ↦ subst P (sym first) all.0 | inr later ↦ each_of P xs all.1 n later ]

  pub all_of_each : (P : X → Type 0) (xs : List X) → ((n : X) → IsIn n xs → P n) → AllByRecursion P xs
  all_of_each P [] each = tt
  all_of_each P (x ∷ xs) each = (each x (inl refl), all_of_each P xs (λ n is. each n (inr is)))

module _ {X Y : Type 0} (f : X → Y) where
  pub in_mapped : (xs : List X) (n : X) → IsIn n xs → IsIn (f n) (map f xs)
  in_mapped [] n is = absurd is
  in_mapped (x ∷ xs) n is = elim is [ inl first ↦ inl (ap f first) | inr later ↦ inr (in_mapped xs n later) ]

  pub from_mapped : (xs : List X) (m : Y) → IsIn m (map f xs) → (n : X) × IsIn n xs × (m ≡ f n)
  from_mapped [] m is = absurd is
  from_mapped (x ∷ xs) m is = elim is [
    | inl first ↦ (x, inl refl, first)
    | inr later ↦ let found = from_mapped xs m later in (found.0, inr found.1, found.2)
  ]

-- ---- whether it holds an entry

pub same_binding : (a b : Binding) → a.key ≡ b.key → a.value ≡ b.value → a ≡ b
same_binding a b keys values =
    let of_key : List ℕ → Binding = λ k. record { key = k; value = a.value } in
    let of_value : List ℕ → Binding = λ v. record { key = b.key; value = v } in
    ap of_key keys ∙ ap of_value values

one_or_not : (a b : Binding) → (a ≡ b) ⊎ (a ≢ b)
one_or_not a b =
    elim (same_or_not a.key b.key) [
      | inl keys ↦ elim (same_or_not a.value b.value) [
        | inl values ↦ inl (same_binding a b keys values)
        | inr differ ↦ inr (λ e. differ (ap (λ (c : Binding). c.value) e))
      ]
      | inr differ ↦ inr (λ e. differ (ap (λ (c : Binding). c.key) e))
    ]

pub in_or_not : (n : Binding) (xs : List Binding) → IsIn n xs ⊎ (¬ IsIn n xs)
in_or_not n [] = inr (λ is. is)
in_or_not n (x ∷ xs) =
    elim (one_or_not n x) [
      | inl first ↦ inl (inl first)
      | inr not_first ↦ elim (in_or_not n xs) [
        | inl later ↦ inl (inr later)
        | inr not_later ↦ inr (λ is. elim is [ inl first ↦ not_first first | inr later ↦ not_later later ])
      ]
    ]

-- the entry with this key, where there is one
pub with_key_or_not : (k : List ℕ) (xs : List Binding) → ((n : Binding) × IsIn n xs × (n.key ≡ k)) ⊎ ((n : Binding) → IsIn n xs → n.key ≢ k)
with_key_or_not k [] = inr (λ n is. absurd is)
with_key_or_not k (x ∷ xs) =
    elim (same_or_not x.key k) [
      | inl same ↦ inl (x, inl refl, same)
      | inr differ ↦ elim (with_key_or_not k xs) [
        | inl found ↦ inl (found.0, inr found.1, found.2)
        | inr nowhere ↦ inr (λ n is. elim is [ inl first ↦ (λ e. differ (ap (λ (c : Binding). c.key) (sym first) ∙ e)) | inr later ↦ nowhere n later ])
      ]
    ]

-- ---- rising keys

module _ {X : Type 0} (key : X → List ℕ) where
  abbrev pub RiseBy : Option (List ℕ) → List X → Type 0
  RiseBy low xs = AreRisingFrom low (map key xs)

  -- two items with one key are one
  pub one_with_key : (low : Option (List ℕ)) (xs : List X) → RiseBy low xs → (m n : X) → IsIn m xs → IsIn n xs → key m ≡ key n → m ≡ n
  one_with_key low [] rise m n is is_too same = absurd is
  one_with_key low (x ∷ xs) rise m n is is_too same = elim is [
    | inl first ↦ elim is_too [
      | inl first_too ↦ first ∙ sym first_too
      | inr later ↦ absurd (not_itself (key x) (key n) (above_low key (key x) xs rise.1 n later) (ap key (sym first) ∙ same))
    ]
    | inr later ↦ elim is_too [
      | inl first_too ↦ absurd (not_itself (key x) (key m) (above_low key (key x) xs rise.1 m later) (ap key (sym first_too) ∙ sym same))
      | inr later_too ↦ one_with_key (Some (key x)) xs rise.1 m n later later_too same
    ]
  ]

  pub from_lower : (low : Option (List ℕ)) (k : List ℕ) (xs : List X) → IfSome low (λ l. IsBelow l k) → RiseBy (Some k) xs → RiseBy low xs
  from_lower low k [] below rise = tt
  from_lower None k (x ∷ xs) below rise = (tt, rise.1)
  from_lower (Some l) k (x ∷ xs) below rise = (order_trans l k (key x) below rise.0, rise.1)

  -- all items of the one list are of the other
  abbrev pub Within : List X → List X → Type 0
  Within xs ys = (n : X) → IsIn n xs → IsIn n ys

  -- the number of the items of two lists that have no item in common, taken together
  abbrev pub Counts : Option (List ℕ) → List X → Type 0
  Counts low c = (a b : List X) → RiseBy low a → RiseBy low b → ((n : X) → IsIn n c → IsIn n a ⊎ IsIn n b) → Within a c → Within b c → ((n : X) → IsIn n a → IsIn n b → ⊥) → length c ≡ length a + length b

  module _ (low : Option (List ℕ)) (x : X) (c : List X) (rc : RiseBy low (x ∷ c)) where
    not_in : (n : X) → n ≡ x → IsIn n c → ⊥
    not_in n same is = not_itself (key x) (key n) (above_low key (key x) c rc.1 n is) (ap key (sym same))

    -- the first of a list that holds x, and only what x and c hold, is x
    is_first : (y : X) (ys : List X) → RiseBy low (y ∷ ys) → Within (y ∷ ys) (x ∷ c) → IsIn x (y ∷ ys) → x ≡ y
    is_first y ys rise within is = elim is [
      | inl first ↦ first
      | inr there ↦ elim (within y (inl refl)) [
        | inl first ↦ sym first
        | inr after ↦ absurd (not_itself (key x) (key x) (order_trans (key x) (key y) (key x) (above_low key (key x) c rc.1 y after) (above_low key (key y) ys rise.1 x there)) refl)
      ]
    ]

    -- where a list holds x first, the rest of it is of the rest
    within_rest : (y : X) (ys : List X) → RiseBy low (y ∷ ys) → x ≡ y → Within (y ∷ ys) (x ∷ c) → Within ys c
    within_rest y ys rise same within n is = elim (within n (inr is)) [
      | inl first ↦ absurd (not_itself (key y) (key n) (above_low key (key y) ys rise.1 n is) (ap key (sym same ∙ sym first)))
      | inr there ↦ there
    ]

    -- a list that doesn't hold x is of the rest
    within_other : (ys : List X) → ¬ IsIn x ys → Within ys (x ∷ c) → Within ys c
    within_other ys hasnt within n is = elim (within n is) [ inl first ↦ absurd (hasnt (subst (λ (m : X). IsIn m ys) first is)) | inr there ↦ there ]

    above_x : (ys : List X) → RiseBy low ys → Within ys c → RiseBy (Some (key x)) ys
    above_x [] rise within = tt
    above_x (y ∷ ys) rise within = (above_low key (key x) c rc.1 y (within y (inl refl)), rise.1)

    above_same : (y : X) (ys : List X) → x ≡ y → RiseBy low (y ∷ ys) → RiseBy (Some (key x)) ys
    above_same y ys same rise = subst (λ (m : X). RiseBy (Some (key m)) ys) (sym same) rise.1

    by_first : (a b : List X) → RiseBy low a → RiseBy low b → ((n : X) → IsIn n (x ∷ c) → IsIn n a ⊎ IsIn n b) → Within a (x ∷ c) → Within b (x ∷ c) → ((n : X) → IsIn n a → IsIn n b → ⊥)
        → IsIn x a → Counts (Some (key x)) c → suc (length c) ≡ length a + length b
    by_first [] b ra rb split left right apart in_a again = absurd in_a
    by_first (y ∷ ys) b ra rb split left right apart in_a again =
        let same = is_first y ys ra left in_a in
        let others = within_other b (λ is. apart x in_a is) right in
        let rest : length c ≡ length ys + length b = again ys b (above_same y ys same ra) (above_x b rb others)
        (λ n is. elim (split n (inr is)) [
          | inl of_a ↦ elim of_a [ inl first ↦ absurd (not_in n (first ∙ sym same) is) | inr there ↦ inl there ]
          | inr of_b ↦ inr of_b
        ]) (within_rest y ys ra same left) others (λ n is is_too. apart n (inr is) is_too) in
        omega arith

  pub count_parts : (low : Option (List ℕ)) (c : List X) → RiseBy low c → Counts low c
  count_parts low [] rc [] [] ra rb split left right apart = refl
  count_parts low [] rc (x ∷ a) b ra rb split left right apart = absurd (left x (inl refl))
  count_parts low [] rc [] (x ∷ b) ra rb split left right apart = absurd (right x (inl refl))
  count_parts low (x ∷ c) rc a b ra rb split left right apart = elim (split x (inl refl)) [
    | inl in_a ↦ by_first low x c rc a b ra rb split left right apart in_a (count_parts (Some (key x)) c rc.1)
    | inr in_b ↦
        let turned : suc (length c) ≡ length b + length a =
        by_first low x c rc b a rb ra (λ n is. elim (split n is) [ inl of_a ↦ inr of_a | inr of_b ↦ inl of_b ]) right left (λ n is is_too. apart n is_too is) in_b (count_parts (Some (key x)) c rc.1) in
        omega arith
  ]
