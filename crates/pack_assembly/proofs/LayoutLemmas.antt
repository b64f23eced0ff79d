-- Rows that are measured and laid out.
use Rattle.std.proofs.Common.{◌≡◌, ◌⊎◌, ◌≤◌, ◌<◌, ◌+◌, ◌^◌, inl, inr, ℕ, List, [], ◌∷◌, ◌++◌, arith, get_or, take, drop, take-append-drop, length, append-nil, append_assoc, refl, sym, ap, subst, ◌∙◌}
use Rattle.std.specs.List.{AllByRecursion, Contains, flat_map}
use Rattle.std.proofs.lemmas.Grind.{flat_map-append}
use Rattle.std.proofs.lemmas.List.{map-append, take_all, take_more}
use Rattle.std.proofs.lemmas.List.Elements.{Contains-append_right, Contains-get_or}
use Rattle.osm_keys.proofs.shared.Members.{here, in_all, in_map}
use Rattle.tree_node.specs.Nodes.{IsNode, Node}
use Rattle.node_pack.specs.Packs.{Kept, record_len}
use Rattle.pack_assembly.specs.declared.layout.PlacedRow.{PlacedRow}
use Rattle.pack_assembly.specs.declared.row.Row.{Row}
use Rattle.pack_assembly.specs.internal.Order.{kept_of, kepts_of, lens, spellings}
use Rattle.pack_assembly.specs.internal.Placing.{AreLong, AreShort, placed_from}
use Rattle.pack_assembly.proofs.PackLemmas.{short_append}
use Rattle.pack_assembly.proofs.PlaceLemmas.{lens-append, placed_append}

-- of these nodes some were measured, and none was too long; the others are left
pub record IsMeasured (nodes : List Node) (unmeasured : List (List ℕ)) (start at : ℕ) : Type 0 where
  pub done : List Node
  pub rest : List Node
  pub both : nodes ≡ done ++ rest
  pub are : AllByRecursion IsNode rest
  pub left : unmeasured ≡ spellings rest
  pub at_is : at ≡ start + lens (kepts_of done)
  pub short : AreShort (kepts_of done)

pub none_measured_yet : (nodes : List Node) (unmeasured : List (List ℕ)) (start : ℕ) → AllByRecursion IsNode nodes → unmeasured ≡ spellings nodes → IsMeasured nodes unmeasured start start
none_measured_yet nodes unmeasured start are left = record { done = []; rest = nodes; both = refl; are = are; left = left; at_is = omega arith; short = tt }

one_more : (done : List Node) (node : Node) → kepts_of (done ++ node ∷ []) ≡ kepts_of done ++ kept_of node ∷ []
one_more done node = map-append kept_of done (node ∷ [])

pub more_measured : (nodes : List Node) (unmeasured rest : List (List ℕ)) (start at end : ℕ) (node : Node) (others : List Node) (was : IsMeasured nodes unmeasured start at) → was.rest ≡ node ∷ others
    → rest ≡ spellings others → end ≡ at + record_len (kept_of node) → record_len (kept_of node) < 2 ^ 32 → IsMeasured nodes rest start end
more_measured nodes unmeasured rest start at end node others was first left end_is short =
    let all = subst (AllByRecursion IsNode) first was.are in
    let at_is = was.at_is in
    let long = ap lens (one_more was.done node) ∙ lens-append (kepts_of was.done) (kept_of node ∷ []) in
    record {
      done = was.done ++ node ∷ [];
      rest = others;
      both = was.both ∙ ap (λ (l : List Node). was.done ++ l) first ∙ sym (append_assoc was.done (node ∷ []) others);
      are = all.1;
      left = left;
      at_is = omega (arith, at_is, end_is, long);
      short = subst AreShort (sym (one_more was.done node)) (short_append (kepts_of was.done) (kept_of node ∷ []) was.short (short, tt));
    }

pub record AllMeasured (nodes : List Node) (start at : ℕ) : Type 0 where
  pub at_is : at ≡ start + lens (kepts_of nodes)
  pub short : AreShort (kepts_of nodes)

pub all_measured : (nodes : List Node) (unmeasured : List (List ℕ)) (start at : ℕ) (was : IsMeasured nodes unmeasured start at) → was.rest ≡ [] → AllMeasured nodes start at
all_measured nodes unmeasured start at was none =
    let whole : was.done ≡ nodes = sym (append-nil was.done) ∙ ap (λ (l : List Node). was.done ++ l) (sym none) ∙ sym was.both in
    record {
      at_is = was.at_is ∙ ap (λ (l : List Node). start + lens (kepts_of l)) whole;
      short = subst (λ (l : List Node). AreShort (kepts_of l)) whole was.short;
    }

-- a next one that is too long
pub long_measured : (nodes : List Node) (unmeasured : List (List ℕ)) (start at : ℕ) (node : Node) (others : List Node) (was : IsMeasured nodes unmeasured start at) → was.rest ≡ node ∷ others
    → (2 ^ 32 ≤ record_len (kept_of node)) ⊎ (2 ^ 48 < at + record_len (kept_of node)) → AreLong start (kepts_of nodes)
long_measured nodes unmeasured start at node others was first long =
    let whole : nodes ≡ was.done ++ node ∷ others = was.both ∙ ap (λ (l : List Node). was.done ++ l) first in
    let among : Contains nodes node = subst (λ (l : List Node). Contains l node) (sym whole) (Contains-append_right was.done (node ∷ others) node (here node others)) in
    elim long [
      | inl le ↦ inl (kept_of node, in_map kept_of nodes node among, le)
      | inr lt ↦
          let sums = ap (λ (l : List Node). lens (kepts_of l)) whole ∙ ap lens (map-append kept_of was.done (node ∷ others)) ∙ lens-append (kepts_of was.done) (kept_of node ∷ kepts_of others) in
          let at_is = was.at_is in
          inr (omega (arith, lt, sums, at_is))
    ]

-- ---- rows

-- these rows are laid out from an offset on, none of their records is too long, and they end at another
pub record AreLaid (kepts : Row → List Kept) (first : ℕ) (rows : List Row) (placed : List PlacedRow) (at : ℕ) : Type 0 where
  pub placed_are : placed ≡ placed_from kepts first rows
  pub at_is : at ≡ first + lens (flat_map kepts rows)
  pub short : AreShort (flat_map kepts rows)

pub none_laid : (kepts : Row → List Kept) (first : ℕ) (placed : List PlacedRow) → placed ≡ [] → AreLaid kepts first [] placed first
none_laid kepts first placed none = record { placed_are = none; at_is = omega arith; short = tt }

flat_one : (kepts : Row → List Kept) (rows : List Row) (i : ℕ) (d : Row) → i < length rows → flat_map kepts (take (i + 1) rows) ≡ flat_map kepts (take i rows) ++ kepts (get_or rows i d)
flat_one kepts rows i d lt =
    ap (flat_map kepts) (take_more rows i d lt) ∙ flat_map-append kepts (take i rows) (get_or rows i d ∷ [])
    ∙ ap (λ (l : List Kept). flat_map kepts (take i rows) ++ l) (append-nil (kepts (get_or rows i d)))

pub more_laid : (kepts : Row → List Kept) (first : ℕ) (rows : List Row) (i : ℕ) (d : Row) (placed more : List PlacedRow) (at end : ℕ) → i < length rows → AreLaid kepts first (take i rows) placed at
    → more ≡ placed ++ record { row = get_or rows i d; at = at } ∷ [] → end ≡ at + lens (kepts (get_or rows i d)) → AreShort (kepts (get_or rows i d)) → AreLaid kepts first (take (i + 1) rows) more end
more_laid kepts first rows i d placed more at end lt was one end_is short =
    let at_is = was.at_is in
    let sums = ap lens (flat_one kepts rows i d lt) ∙ lens-append (flat_map kepts (take i rows)) (kepts (get_or rows i d)) in
    record {
      placed_are = one ∙ ap (λ (l : List PlacedRow). l ++ record { row = get_or rows i d; at = at } ∷ []) was.placed_are
          ∙ ap (λ (n : ℕ). placed_from kepts first (take i rows) ++ record { row = get_or rows i d; at = n } ∷ []) at_is
          ∙ sym (placed_append kepts first (take i rows) (get_or rows i d ∷ [])) ∙ ap (placed_from kepts first) (sym (take_more rows i d lt));
      at_is = omega (arith, at_is, end_is, sums);
      short = subst AreShort (sym (flat_one kepts rows i d lt)) (short_append (flat_map kepts (take i rows)) (kepts (get_or rows i d)) was.short short);
    }

pub all_laid : (kepts : Row → List Kept) (first : ℕ) (rows : List Row) (i : ℕ) (placed : List PlacedRow) (at : ℕ) → length rows ≤ i → AreLaid kepts first (take i rows) placed at → AreLaid kepts first rows placed at
all_laid kepts first rows i placed at le was = subst (λ (rs : List Row). AreLaid kepts first rs placed at) (take_all i rows le) was

-- a next row that is too long
pub long_laid : (kepts : Row → List Kept) (first : ℕ) (rows : List Row) (i : ℕ) (d : Row) (placed : List PlacedRow) (at : ℕ) → i < length rows → AreLaid kepts first (take i rows) placed at
    → AreLong at (kepts (get_or rows i d)) → AreLong first (flat_map kepts rows)
long_laid kepts first rows i d placed at lt was (inl long) =
    inl (long.0, in_all kepts rows (get_or rows i d) long.0 (Contains-get_or rows i d lt) long.1, long.2)
long_laid kepts first rows i d placed at lt was (inr long) =
    let at_is = was.at_is in
    let sums = ap lens (flat_one kepts rows i d lt) ∙ lens-append (flat_map kepts (take i rows)) (kepts (get_or rows i d)) in
    let whole = ap (λ (rs : List Row). lens (flat_map kepts rs)) (sym (take-append-drop (i + 1) rows)) ∙ ap lens (flat_map-append kepts (take (i + 1) rows) (drop (i + 1) rows))
    ∙ lens-append (flat_map kepts (take (i + 1) rows)) (flat_map kepts (drop (i + 1) rows)) in
    inr (omega (arith, long, at_is, sums, whole))
