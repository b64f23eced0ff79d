-- The rows of trees: each level has one, and no two are equal.
use Rattle.std.proofs.Common.{◌≡◌, ◌⊎◌, ◌≤◌, ◌<◌, ◌+◌, ◌-◌, ◌*◌, inl, inr, ℕ, zero, suc, List, [], ◌∷◌, ◌++◌, min, arith, sym, ap, subst}
use Rattle.std.specs.List.{Contains}
use Rattle.std.proofs.lemmas.List.Elements.{Contains-append_left, Contains-append_right, Contains-append_cases}
use Rattle.osm_keys.proofs.shared.Members.{first_or_in_rest, here, in_rest, none}
use Rattle.tree_node.specs.NodeRefs.{number_of}
use Rattle.tree_node.specs.declared.tree.Tree.{Tree}
use Rattle.tree_node.specs.declared.tree.Tree.TheVariants.{Backs, Cells, Objects, Tags}
use Rattle.pack_assembly.specs.declared.row.Row.{Row}
use Rattle.pack_assembly.specs.internal.Order.{between, down, in_trees, rows_of}

abbrev pub row : Tree → ℕ → Row
row tree level = record { tree = tree; level = level }

-- ---- each level has a row

pub less_or_more : (a b : ℕ) → (a ≤ b) ⊎ (b < a)
less_or_more zero b = inl (omega arith)
less_or_more (suc a) zero = inr (omega arith)
less_or_more (suc a) (suc b) = elim (less_or_more a b) [ inl le ↦ inl (omega (arith, le)) | inr lt ↦ inr (omega (arith, lt)) ]

down_has : (tree : Tree) (low n level : ℕ) → low ≤ level → level < low + n → Contains (down tree low n) (row tree level)
down_has tree low zero level from below = absurd (omega (arith, from, below))
down_has tree low (suc n) level from below =
    elim (less_or_more (low + n) level) [
      | inl le ↦ let e : low + n ≡ level = omega (arith, le, below) in
          subst (λ (l : ℕ). Contains (row tree (low + n) ∷ down tree low n) (row tree l)) e (here (row tree (low + n)) (down tree low n))
      | inr lt ↦ in_rest (row tree (low + n)) (down tree low n) (row tree level) (down_has tree low n level from lt)
    ]

module _ (height : Tree → ℕ) where
  between_has : (low high : ℕ) (tree : Tree) (level : ℕ) → low ≤ level → level < high → level < height tree → Contains (between height low high tree) (row tree level)
  between_has low high tree level from below within = down_has tree low (min (height tree) high - low) level from (omega (arith, from, below, within))

  in_trees_has : (low high : ℕ) (tree : Tree) (level : ℕ) → low ≤ level → level < high → level < height tree → Contains (in_trees height low high) (row tree level)
  in_trees_has low high Objects level from below within = Contains-append_left _ _ _ (between_has low high Objects level from below within)
  in_trees_has low high Tags level from below within =
      Contains-append_right (between height low high Objects) _ _ (Contains-append_left _ _ _ (between_has low high Tags level from below within))
  in_trees_has low high Cells level from below within =
      Contains-append_right (between height low high Objects) _ _ (Contains-append_right (between height low high Tags) _ _
      (Contains-append_left _ _ _ (between_has low high Cells level from below within)))
  in_trees_has low high Backs level from below within =
      Contains-append_right (between height low high Objects) _ _ (Contains-append_right (between height low high Tags) _ _
      (Contains-append_right (between height low high Cells) _ _ (between_has low high Backs level from below within)))

  pub rows_have : (tree : Tree) (level : ℕ) → level < height tree → level < 255 → Contains (rows_of height) (row tree level)
  rows_have tree zero within few =
      Contains-append_right (in_trees height 2 255) _ _ (Contains-append_right (in_trees height 1 2) _ _ (in_trees_has 0 1 tree zero (omega arith) (omega arith) within))
  rows_have tree (suc zero) within few =
      Contains-append_right (in_trees height 2 255) _ _ (Contains-append_left _ _ _ (in_trees_has 1 2 tree (suc zero) (omega arith) (omega arith) within))
  rows_have tree (suc (suc level)) within few =
      Contains-append_left _ _ _ (in_trees_has 2 255 tree (suc (suc level)) (omega arith) few within)

-- ---- no two are equal

-- a number for each row, which rises in the order of the rows
abbrev rank_at : ℕ → ℕ → ℕ
rank_at number zero = 20000 + number
rank_at number (suc zero) = 10000 + number
rank_at number (suc (suc level)) = number * 1000 + (900 - level)

abbrev pub rank : Row → ℕ
rank r = rank_at (number_of r.tree) r.level

-- the numbers of the rows rise, from this one on, up to below another
abbrev pub RisesTo : ℕ → List Row → ℕ → Type 0
RisesTo low [] high = low ≤ high
RisesTo low (r ∷ rs) high = (low ≤ rank r) × RisesTo (suc (rank r)) rs high

lower : (low less : ℕ) (rs : List Row) (high : ℕ) → less ≤ low → RisesTo low rs high → RisesTo less rs high
lower low less [] high le rises = omega (arith, le, rises)
lower low less (r ∷ rs) high le rises = (omega (arith, le, rises.0), rises.1)

joined : (low mid high : ℕ) (rs ss : List Row) → RisesTo low rs mid → RisesTo mid ss high → RisesTo low (rs ++ ss) high
joined low mid high [] ss first second = lower mid low ss high first second
joined low mid high (r ∷ rs) ss first second = (first.0, joined (suc (rank r)) mid high rs ss first.1 second)

pub later_rank : (low : ℕ) (rs : List Row) (high : ℕ) (r : Row) → RisesTo low rs high → Contains rs r → low ≤ rank r
later_rank low [] high r rises among = absurd (none r among)
later_rank low (s ∷ rs) high r rises among =
    elim (first_or_in_rest s rs r among) [
      | inl e ↦ subst (λ (t : Row). low ≤ rank t) e rises.0
      | inr more ↦ let le = later_rank (suc (rank s)) rs high r rises.1 more in omega (arith, le, rises.0)
    ]

upper_rises : (tree : Tree) (n high : ℕ) → n ≤ 253 → number_of tree * 1000 + 901 ≤ high → RisesTo (number_of tree * 1000 + (901 - n)) (down tree 2 n) high
upper_rises tree zero high few le = omega (arith, le)
upper_rises tree (suc n) high few le =
    let e : suc (suc n) ≡ 2 + n = omega arith in
    let at : rank_at (number_of tree) (2 + n) ≡ number_of tree * 1000 + (900 - n) = ap (rank_at (number_of tree)) (sym e) in
    let next : number_of tree * 1000 + (901 - n) ≡ suc (rank_at (number_of tree) (2 + n)) = omega (arith, at, few) in (
      omega (arith, at, few),
      subst (λ (k : ℕ). RisesTo k (down tree 2 n) high) next (upper_rises tree n high (omega (arith, few)) le),
    )

lower_rises : (tree : Tree) (n low high : ℕ) → n ≤ 1 → low ≤ 10000 + number_of tree → 10001 + number_of tree ≤ high → RisesTo low (down tree 1 n) high
lower_rises tree zero low high few from to = omega (arith, from, to)
lower_rises tree (suc zero) low high few from to = (omega (arith, from), omega (arith, to))
lower_rises tree (suc (suc n)) low high few from to = absurd (omega (arith, few))

leaves_rise : (tree : Tree) (n low high : ℕ) → n ≤ 1 → low ≤ 20000 + number_of tree → 20001 + number_of tree ≤ high → RisesTo low (down tree 0 n) high
leaves_rise tree zero low high few from to = omega (arith, from, to)
leaves_rise tree (suc zero) low high few from to = (omega (arith, from), omega (arith, to))
leaves_rise tree (suc (suc n)) low high few from to = absurd (omega (arith, few))

module _ (height : Tree → ℕ) where
  upper_between : (tree : Tree) (low high : ℕ) → low ≤ number_of tree * 1000 → number_of tree * 1000 + 901 ≤ high → RisesTo low (between height 2 255 tree) high
  upper_between tree low high from to =
      let n = min (height tree) 255 - 2 in
      lower (number_of tree * 1000 + (901 - (min (height tree) 255 - 2))) low (down tree 2 (min (height tree) 255 - 2)) high (omega (arith, from))
      (upper_rises tree (min (height tree) 255 - 2) high (omega arith) to)

  four : (low high a b c d : ℕ) (l h : ℕ) → RisesTo a (between height l h Objects) b → RisesTo b (between height l h Tags) c
      → RisesTo c (between height l h Cells) d → RisesTo d (between height l h Backs) high → RisesTo a (in_trees height l h) high
  four low high a b c d l h one two three last =
      joined a b high (between height l h Objects) _ one
      (joined b c high (between height l h Tags) _ two (joined c d high (between height l h Cells) (between height l h Backs) three last))

  pub rows_rise : RisesTo 0 (rows_of height) 30000
  rows_rise =
      joined 0 10000 30000 (in_trees height 2 255) _
      (four 0 10000 0 2000 3000 4000 2 255 (upper_between Objects 0 2000 (omega arith) (omega arith)) (upper_between Tags 2000 3000 (omega arith) (omega arith))
      (upper_between Cells 3000 4000 (omega arith) (omega arith)) (upper_between Backs 4000 10000 (omega arith) (omega arith)))
      (joined 10000 20000 30000 (in_trees height 1 2) (in_trees height 0 1)
      (four 0 20000 10000 10002 10003 10004 1 2 (lower_rises Objects _ 10000 10002 (omega arith) (omega arith) (omega arith)) (lower_rises Tags _ 10002 10003 (omega arith) (omega arith) (omega arith))
      (lower_rises Cells _ 10003 10004 (omega arith) (omega arith) (omega arith)) (lower_rises Backs _ 10004 20000 (omega arith) (omega arith) (omega arith)))
      (four 0 30000 20000 20002 20003 20004 0 1 (leaves_rise Objects _ 20000 20002 (omega arith) (omega arith) (omega arith)) (leaves_rise Tags _ 20002 20003 (omega arith) (omega arith) (omega arith))
      (leaves_rise Cells _ 20003 20004 (omega arith) (omega arith) (omega arith)) (leaves_rise Backs _ 20004 30000 (omega arith) (omega arith) (omega arith))))

-- ---- each row is a level

down_low : (tree : Tree) (low n : ℕ) (r : Row) → Contains (down tree low n) r → (r.tree ≡ tree) × (low ≤ r.level) × (r.level < low + n)
down_low tree low zero r among = absurd (none r among)
down_low tree low (suc n) r among =
    elim (first_or_in_rest (row tree (low + n)) (down tree low n) r among) [
      | inl e ↦
          let at : low + n ≡ r.level = ap (λ (s : Row). s.level) e in
          (ap (λ (s : Row). s.tree) (sym e), omega (arith, at), omega (arith, at))
      | inr more ↦ let rest = down_low tree low n r more in (rest.0, rest.1, omega (arith, rest.2))
    ]

module _ (height : Tree → ℕ) (r : Row) where
  between_low : (low high : ℕ) (tree : Tree) → Contains (between height low high tree) r → r.level < height r.tree
  between_low low high tree among =
      let (same, from, below) = down_low tree low (min (height tree) high - low) r among in
      let h : height r.tree ≡ height tree = ap height same in
      omega (arith, from, below, h)

  in_trees_low : (low high : ℕ) → Contains (in_trees height low high) r → r.level < height r.tree
  in_trees_low low high among =
      elim (Contains-append_cases (between height low high Objects) _ r among) [
        | inl k ↦ between_low low high Objects k
        | inr k ↦ elim (Contains-append_cases (between height low high Tags) _ r k) [
          | inl m ↦ between_low low high Tags m
          | inr m ↦ elim (Contains-append_cases (between height low high Cells) (between height low high Backs) r m) [
            | inl n ↦ between_low low high Cells n
            | inr n ↦ between_low low high Backs n
          ]
        ]
      ]

  pub rows_low : Contains (rows_of height) r → r.level < height r.tree
  rows_low among =
      elim (Contains-append_cases (in_trees height 2 255) _ r among) [
        | inl k ↦ in_trees_low 2 255 k
        | inr k ↦ elim (Contains-append_cases (in_trees height 1 2) (in_trees height 0 1) r k) [
          | inl m ↦ in_trees_low 1 2 m
          | inr m ↦ in_trees_low 0 1 m
        ]
      ]
