-- Which nodes of a level are new and which are gone; how many were read.
use Rattle.std.proofs.Common.{◌≡◌, ◌↔◌, ℕ, ◌+◌, ◌≤◌, List, [], ◌∷◌, ◌++◌, length, map, ◌⊎◌, inl, inr, Option, None, Some, sym, ap, subst, ◌∙◌, arith, length-append}
use Rattle.tree_node.specs.Nodes.{AreRisingFrom}
use Rattle.tree_node.specs.Order.{IsBelow}
use Rattle.tree_node.specs.internal.OrderLemmas.{not_itself, order_trans}
use Rattle.tree_build.specs.internal.Weaving.{IsIn, Woven, none, left, right}

-- ---- woven lists

module _ {X : Type 0} where
  pub woven_append : (xs ys zs others more all : List X) → Woven xs ys zs → Woven others more all → Woven (xs ++ others) (ys ++ more) (zs ++ all)
  woven_append _ _ _ others more all none w = w
  woven_append _ _ _ others more all (left x xs ys zs v) w = left x (xs ++ others) (ys ++ more) (zs ++ all) (woven_append xs ys zs others more all v w)
  woven_append _ _ _ others more all (right y xs ys zs v) w = right y (xs ++ others) (ys ++ more) (zs ++ all) (woven_append xs ys zs others more all v w)

  pub woven_left : (xs : List X) → Woven xs [] xs
  woven_left [] = none
  woven_left (x ∷ xs) = left x xs [] xs (woven_left xs)

  pub woven_right : (xs : List X) → Woven [] xs xs
  woven_right [] = none
  woven_right (x ∷ xs) = right x [] xs xs (woven_right xs)

  pub in_woven : (n : X) (xs ys zs : List X) → Woven xs ys zs → IsIn n zs → IsIn n xs ⊎ IsIn n ys
  in_woven n _ _ _ none is = absurd is
  in_woven n _ _ _ (left x xs ys zs w) is =
      elim is [ inl here ↦ inl (inl here) | inr there ↦ elim (in_woven n xs ys zs w there) [ inl a ↦ inl (inr a) | inr b ↦ inr b ] ]
  in_woven n _ _ _ (right y xs ys zs w) is =
      elim is [ inl here ↦ inr (inl here) | inr there ↦ elim (in_woven n xs ys zs w there) [ inl a ↦ inl a | inr b ↦ inr (inr b) ] ]

  pub woven_first : (n : X) (xs ys zs : List X) → Woven xs ys zs → IsIn n xs → IsIn n zs
  woven_first n _ _ _ none is = absurd is
  woven_first n _ _ _ (left x xs ys zs w) is = elim is [ inl here ↦ inl here | inr there ↦ inr (woven_first n xs ys zs w there) ]
  woven_first n _ _ _ (right y xs ys zs w) is = inr (woven_first n xs ys zs w is)

  pub woven_second : (n : X) (xs ys zs : List X) → Woven xs ys zs → IsIn n ys → IsIn n zs
  woven_second n _ _ _ none is = absurd is
  woven_second n _ _ _ (left x xs ys zs w) is = inr (woven_second n xs ys zs w is)
  woven_second n _ _ _ (right y xs ys zs w) is = elim is [ inl here ↦ inl here | inr there ↦ inr (woven_second n xs ys zs w there) ]

module _ {X : Type 0} (key : X → List ℕ) where
  abbrev Rise : Option (List ℕ) → List X → Type 0
  Rise low xs = AreRisingFrom low (map key xs)

  pub above_low : (low : List ℕ) (xs : List X) → Rise (Some low) xs → (n : X) → IsIn n xs → IsBelow low (key n)
  above_low low [] rise n is = absurd is
  above_low low (x ∷ xs) rise n is = elim is [
    | inl here ↦ subst (λ (m : X). IsBelow low (key m)) (sym here) rise.0
    | inr there ↦ order_trans low (key x) (key n) rise.0 (above_low (key x) xs rise.1 n there)
  ]

  not_later : (low : Option (List ℕ)) (x : X) (xs : List X) → Rise low (x ∷ xs) → (n : X) → n ≡ x → IsIn n xs → ⊥
  not_later low x xs rise n same is = not_itself (key x) (key n) (above_low (key x) xs rise.1 n is) (ap key (sym same))

  -- in a list whose keys rise no item is of both parts
  pub woven_apart : (low : Option (List ℕ)) (xs ys zs : List X) → Woven xs ys zs → Rise low zs → (n : X) → IsIn n xs → IsIn n ys → ⊥
  woven_apart low _ _ _ none rise n one two = one
  woven_apart low _ _ _ (left x xs ys zs w) rise n one two = elim one [
    | inl here ↦ not_later low x zs rise n here (woven_second n xs ys zs w two)
    | inr there ↦ woven_apart (Some (key x)) xs ys zs w rise.1 n there two
  ]
  woven_apart low _ _ _ (right y xs ys zs w) rise n one two = elim two [
    | inl here ↦ not_later low y zs rise n here (woven_first n xs ys zs w one)
    | inr there ↦ woven_apart (Some (key y)) xs ys zs w rise.1 n one there
  ]

  -- Of two levels that share some nodes: the one has a node that the other hasn't just where the node is of its own
  -- part and not of the other's. With the new level first: the added ones; with the old level first: the gone ones.
  pub only_one : (shared own others these those : List X) → Woven shared own these → Woven shared others those → Rise None these
      → (n : X) → (IsIn n these × ¬ IsIn n those) ↔ (IsIn n own × ¬ IsIn n others)
  only_one shared own others these those one two rise n = (
    (λ has. elim (in_woven n shared own these one has.0) [
      | inl kept ↦ absurd (has.1 (woven_first n shared others those two kept))
      | inr mine ↦ (mine, λ other. has.1 (woven_second n shared others those two other))
    ]),
    (λ has. (
      woven_second n shared own these one has.0,
      λ there. elim (in_woven n shared others those two there) [
        | inl kept ↦ woven_apart None shared own these one rise n kept has.0
        | inr other ↦ has.1 other
      ],
    )),
  )

-- ---- how many were read

module _ {X : Type 0} where
  pub in_front : (n : X) (xs ys : List X) → IsIn n xs → IsIn n (xs ++ ys)
  in_front n [] ys is = absurd is
  in_front n (x ∷ xs) ys is = elim is [ inl here ↦ inl here | inr there ↦ inr (in_front n xs ys there) ]

  pub in_back : (n : X) (xs ys : List X) → IsIn n ys → IsIn n (xs ++ ys)
  in_back n [] ys is = is
  in_back n (x ∷ xs) ys is = inr (in_back n xs ys is)

  -- the others, where one is taken out
  pub record TakenOut (one : X) (xs : List X) : Type 0 where
    pub others : List X
    pub fewer : length others + 1 ≡ length xs
    pub rest : (n : X) → IsIn n xs → (n ≡ one) ⊎ IsIn n others

  pub take_out : (one : X) (xs : List X) → IsIn one xs → TakenOut one xs
  take_out one [] is = absurd is
  take_out one (x ∷ xs) is = elim is [
    | inl here ↦ record { others = xs; fewer = omega arith; rest = λ n in_all. elim in_all [ inl first ↦ inl (first ∙ sym here) | inr later ↦ inr later ] }
    | inr there ↦ more (take_out one xs there)
  ]
    where
      more : TakenOut one xs → TakenOut one (x ∷ xs)
      more t = record {
        others = x ∷ t.others;
        fewer = omega (arith, t.fewer);
        rest = λ n in_all. elim in_all [ inl first ↦ inr (inl first) | inr later ↦ elim (t.rest n later) [ inl is_one ↦ inl is_one | inr other ↦ inr (inr other) ] ];
      }

  -- at most so many, all of which this list has
  pub record AreAtMost (most : ℕ) (Read : X → Type 0) : Type 0 where
    pub nodes : List X
    pub few : length nodes ≤ most
    pub all : (n : X) → Read n → IsIn n nodes

  -- what was read is on a way or gone
  pub read_plain : (Read : X → Type 0) (ways gone : List X) (most : ℕ) → length ways ≤ most → ((n : X) → Read n → IsIn n ways ⊎ IsIn n gone) → AreAtMost (length gone + most) Read
  read_plain Read ways gone most few all = record {
    nodes = ways ++ gone;
    few = omega (arith, length-append ways gone);
    all = λ n is. elim (all n is) [ inl way ↦ in_front n ways gone way | inr away ↦ in_back n ways gone away ];
  }

  -- Or one more was read, the new top, and the old top is both on a way and gone: it pays for that one.
  pub read_traded : (Read : X → Type 0) (ways gone : List X) (top one : X) (most : ℕ) → length ways ≤ most → IsIn top ways → IsIn top gone
      → ((n : X) → Read n → (IsIn n ways ⊎ IsIn n gone) ⊎ (n ≡ one)) → AreAtMost (length gone + most) Read
  read_traded Read ways gone top one most few on_way is_gone all =
      let out = take_out top gone is_gone in
      record {
        nodes = one ∷ (ways ++ out.others);
        few = omega (arith, length-append ways out.others, out.fewer);
        all = λ n is. elim (all n is) [
          | inr extra ↦ inl extra
          | inl usual ↦ elim usual [
            | inl way ↦ inr (in_front n ways out.others way)
            | inr away ↦ elim (out.rest n away) [
              | inl is_top ↦ inr (in_front n ways out.others (subst (λ (m : X). IsIn m ways) (sym is_top) on_way))
              | inr other ↦ inr (in_back n ways out.others other)
            ]
          ]
        ];
      }
