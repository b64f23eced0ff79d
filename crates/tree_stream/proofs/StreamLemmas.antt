-- What a stream has taken, and how it goes on with one entry more and comes to its end.
use Rattle.std.proofs.Common.{◌≡◌, ◌≢◌, ℕ, zero, suc, ◌+◌, ◌-◌, ◌*◌, ◌^◌, ◌<◌, ◌≤◌, List, [], ◌∷◌, ◌++◌, length, map, Bool, true, false, cond, Option, Some, None, refl, sym, ap, subst, ◌∙◌, append_assoc, length-append, arith}
use Rattle.std.specs.Prelude.{IfSome}
use Rattle.std.specs.List.{AllByRecursion}
use Rattle.std.proofs.lemmas.List.{append-nil, length-map, map-append}
use Rattle.tree_build.specs.Shapes.{shape_of}
use Rattle.tree_node.specs.NodeRefs.{number_of}
use Rattle.tree_node.specs.Nodes.{AreRisingFrom, Binding, Link, Node, Leaf, greatests_of, keys_of, spelling}
use Rattle.tree_node.specs.Order.{IsBelow}
use Rattle.tree_node.specs.Trees.{FitsTree, HasTree, Shape, ends_by, entry_count, greatest_of, is_marked_entry, is_marked_link, last_key, leaves, level_at, levels, link_to, one_at_least, pieces, pieces_from}
use Rattle.tree_node.proofs.shared.PieceLemmas.{join, least_joins, pieces_join, some_pieces, two_at_least}
use Rattle.tree_node.proofs.shared.PieceLaws.{IsSized, lasts, pieces_sized}
use Rattle.tree_node.proofs.shared.TreeLemmas.{leaves_few, leaves_some}
use Rattle.tree_stream.specs.declared.level.OpenLevel.{OpenLevel}
use Rattle.tree_stream.specs.declared.node_sum.NodeSum.{NodeSum}
use Rattle.tree_stream.specs.declared.stream.TreeStream.{TreeStream}
use Rattle.tree_stream.specs.Streams.{HasTaken, IsNextKey}
use Rattle.tree_stream.specs.internal.Cutting.{done_above, entries_left, inner_done, leaves_done, links_left}
use Rattle.tree_build.specs.internal.Cutting.{done_by, pending_after}
use Rattle.tree_stream.specs.internal.Finishing.{IsWhole}
use Rattle.tree_stream.specs.internal.Holding.{HoldsAt}
use Rattle.tree_stream.specs.internal.Opening.{AreFew, AreOpen, CanAdd}
use Rattle.tree_stream.specs.internal.Writing.{IsPut, States}
use Rattle.tree_build.specs.internal.Building.{AreWithin}
use Rattle.tree_stream.proofs.CutLemmas.{done_half, done_more, last_after, last_append, lasts_join, pending_few, pending_joins, pending_more, pieces_whole}
use Rattle.tree_stream.proofs.FinishLemmas.{last_piece, no_piece}
use Rattle.tree_stream.proofs.OpenLemmas.{link_same, none_above}
use Rattle.tree_stream.proofs.WithinLemmas.{all_both, all_parts, within_leaves}

-- where leaves end
abbrev pub ends_at : Shape → ℕ → Binding → Bool
ends_at shape = ends_by shape is_marked_entry

-- ---- a list with one entry more

keys_more : (entries : List Binding) (e : Binding) → keys_of (entries ++ e ∷ []) ≡ keys_of entries ++ e.key ∷ []
keys_more entries e = map-append (λ (b : Binding). b.key) entries (e ∷ [])

rising_more : (low : Option (List ℕ)) (key : List ℕ) (keys : List (List ℕ)) (next : List ℕ) → AreRisingFrom low (key ∷ keys) → IsBelow (last_key (key ∷ keys)) next → AreRisingFrom low ((key ∷ keys) ++ next ∷ [])
rising_more low key [] next rising above = (rising.0, (above, tt))
rising_more low key (k ∷ keys) next rising above = (rising.0, rising_more (Some key) k keys next rising.1 above)

rises : (entries : List Binding) (e : Binding) → AreRisingFrom None (keys_of entries) → IsNextKey entries e.key → AreRisingFrom None (keys_of entries ++ e.key ∷ [])
rises [] e rising next = (tt, tt)
rises (x ∷ xs) e rising next = rising_more None x.key (keys_of xs) e.key rising next

pub tree_more : (entries : List Binding) (e : Binding) → HasTree entries → IsNextKey entries e.key → FitsTree e → length entries < 536870912 → HasTree (entries ++ e ∷ [])
tree_more entries e has next fits few = record {
  rising = subst (λ (ks : List (List ℕ)). AreRisingFrom None ks) (sym (keys_more entries e)) (rises entries e has.rising next);
  fit = all_both FitsTree entries (e ∷ []) has.fit (fits, tt);
  few = omega (arith, few, length-append entries (e ∷ []));
}

pub last_more : (entries : List Binding) (e : Binding) → last_key (keys_of (entries ++ e ∷ [])) ≡ e.key
last_more entries e = last_append (λ (b : Binding). b.key) entries (e ∷ []) (omega arith)

pub left_more : (shape : Shape) (entries : List Binding) (e : Binding)
    → entries_left shape (entries ++ e ∷ []) ≡ cond (ends_at shape (length (entries_left shape entries) + 1) e) [] (entries_left shape entries ++ e ∷ [])
left_more shape entries e = pending_more (ends_at shape) entries e

mapped : {X Y : Type 0} (f : X → Y) (b : Bool) (x : X) → map f (cond b (x ∷ []) []) ≡ cond b (f x ∷ []) []
mapped f true x = refl
mapped f false x = refl

pub leaves_more : (shape : Shape) (tree : ℕ) (entries : List Binding) (e : Binding)
    → leaves_done shape tree (entries ++ e ∷ []) ≡ leaves_done shape tree entries ++ cond (ends_at shape (length (entries_left shape entries) + 1) e) (Leaf tree (entries_left shape entries ++ e ∷ []) ∷ []) []
leaves_more shape tree entries e =
    let ended = ends_at shape (length (entries_left shape entries) + 1) e in
    let piece = entries_left shape entries ++ e ∷ [] in
    ap (map (Leaf tree)) (done_more (ends_at shape) entries e)
    ∙ map-append (Leaf tree) (done_by (ends_at shape) [] entries) (cond ended (piece ∷ []) [])
    ∙ ap (λ (ns : List Node). leaves_done shape tree entries ++ ns) (mapped (Leaf tree) ended piece)

pub left_few : (shape : Shape) (entries : List Binding) → length (entries_left shape entries) < 64
left_few shape entries = pending_few shape is_marked_entry [] entries (omega arith)

pub left_joins : (shape : Shape) (entries : List Binding) → join (done_by (ends_at shape) [] entries) ++ entries_left shape entries ≡ entries
left_joins shape entries = pending_joins (ends_at shape) [] entries

-- ---- a leaf can be added

joined : {X : Type 0} (ps : List (List X)) (p : List X) → join (ps ++ p ∷ []) ≡ join ps ++ p
joined [] p = append-nil p
joined {X} (q ∷ ps) p = ap (λ (ls : List X). q ++ ls) (joined ps p) ∙ sym (append_assoc q (join ps) p)

module _ (shape : Shape) (tree : ℕ) (entries piece : List Binding) (levels : List OpenLevel) (given : ℕ → List (List ℕ))
    (fit : AllByRecursion FitsTree (join (done_by (ends_at shape) [] entries) ++ piece)) (few : length (join (done_by (ends_at shape) [] entries) ++ piece) ≤ 536870912)
    (are : length entries ≤ 536870912) where
  few_done : AreFew 0 (leaves_done shape tree entries)
  few_done = record {
    most = 30;
    up = omega arith;
    below = omega (arith, are, length-map (done_by (ends_at shape) [] entries) (Leaf tree), done_half (ends_at shape) (two_at_least shape is_marked_entry) [] entries);
  }

  within_all : AreWithin (map link_to (leaves_done shape tree entries ++ Leaf tree piece ∷ []))
  within_all =
      let all = joined (done_by (ends_at shape) [] entries) piece in
      subst (λ (ns : List Node). AreWithin (map link_to ns)) (map-append (Leaf tree) (done_by (ends_at shape) [] entries) (piece ∷ []))
      (within_leaves tree (done_by (ends_at shape) [] entries ++ piece ∷ [])
      (subst (λ (es : List Binding). AllByRecursion FitsTree es) (sym all) fit) (omega (arith, few, ap (length {A = Binding}) all)))

  pub add_leaf : (link : Link) → link.greatest ≡ last_key (keys_of piece) → (sum : NodeSum) → link.number ≡ sum.number → link.child ≡ sum.digest.0 → States (Leaf tree piece) sum
      → AreOpen shape tree 0 (leaves_done shape tree entries) levels given → CanAdd shape tree 0 (leaves_done shape tree entries) (Leaf tree piece) link levels given
  add_leaf link greatest sum number child states opened = record {
    stands =
        let n : link.number ≡ entry_count (Leaf tree piece) = number ∙ states.number in
        link_same link (link_to (Leaf tree piece)) greatest n (child ∙ states.child);
    levels_are = opened;
    few = few_done;
    within = within_all;
    reach = omega arith;
  }

-- what was written at other levels is nothing to those over the leaves
pub open_later : (shape : Shape) (tree : ℕ) (nodes : List Node) (levels : List OpenLevel) (given later : ℕ → List (List ℕ)) → AreOpen shape tree 0 nodes levels given
    → ((level : ℕ) → level ≢ 0 → later level ≡ given level) → AreOpen shape tree 0 nodes levels later
open_later shape tree nodes levels given later so same = record {
  pending = so.pending;
  written = λ up. same (0 + suc up) (omega arith) ∙ so.written up;
  there = so.there;
  past = so.past;
}

-- nothing was written, and nothing is pending
pub open_none : (shape : Shape) (tree : ℕ) (given : ℕ → List (List ℕ)) → ((level : ℕ) → given level ≡ []) → AreOpen shape tree 0 [] [] given
open_none shape tree given none = record {
  pending = λ up. ap (links_left shape) (none_above shape tree 0 up);
  written = λ up. none (0 + suc up) ∙ ap (map spelling) (sym (none_above shape tree 0 (suc up)));
  there = λ up lt. absurd (omega (arith, lt));
  past = λ up le. none_above shape tree 0 up;
}

-- ---- what was taken, said of the stream's own shape and tree

module _ {W : Type 0} (given : W → ℕ → List (List ℕ)) (stream : TreeStream W) (shape : Shape) (tree : ℕ) (entries : List Binding) (taken : HasTaken given stream shape tree entries) where
  pub own_taken : HasTaken given stream (shape_of stream.shape) (number_of stream.tree) entries
  own_taken =
      subst (λ (t : ℕ). HasTaken given stream (shape_of stream.shape) t entries) (sym taken.tree_is)
      (subst (λ (s : Shape). HasTaken given stream s tree entries) (sym taken.shape_is) taken)

  pub taken_back : (other : TreeStream W) (more : List Binding) → HasTaken given other (shape_of stream.shape) (number_of stream.tree) more → HasTaken given other shape tree more
  taken_back other more own =
      subst (λ (t : ℕ). HasTaken given other shape t more) taken.tree_is
      (subst (λ (s : Shape). HasTaken given other s (number_of stream.tree) more) taken.shape_is own)

  -- what is pending with an entry more
  pub left_fits : (e : Binding) → FitsTree e → AllByRecursion FitsTree (entries_left shape entries ++ e ∷ [])
  left_fits e fits =
      let parts = all_parts FitsTree (join (done_by (ends_at shape) [] entries)) (entries_left shape entries)
      (subst (λ (es : List Binding). AllByRecursion FitsTree es) (sym (left_joins shape entries)) taken.have_tree.fit) in
      all_both FitsTree (entries_left shape entries) (e ∷ []) parts.1 (fits, tt)

  pub all_fit : AllByRecursion FitsTree (entries_left shape entries)
  all_fit =
      (all_parts FitsTree (join (done_by (ends_at shape) [] entries)) (entries_left shape entries)
      (subst (λ (es : List Binding). AllByRecursion FitsTree es) (sym (left_joins shape entries)) taken.have_tree.fit)).1

  whole_more : (e : Binding) → join (done_by (ends_at shape) [] entries) ++ (entries_left shape entries ++ e ∷ []) ≡ entries ++ e ∷ []
  whole_more e =
      sym (append_assoc (join (done_by (ends_at shape) [] entries)) (entries_left shape entries) (e ∷ []))
      ∙ ap (λ (es : List Binding). es ++ e ∷ []) (left_joins shape entries)

  -- the leaf that an entry completes can be added
  pub add_full : (e : Binding) → FitsTree e → length entries < 536870912 → (later : ℕ → List (List ℕ)) → ((level : ℕ) → level ≢ 0 → later level ≡ given stream.writer level)
      → (link : Link) → link.greatest ≡ e.key → (sum : NodeSum) → link.number ≡ sum.number → link.child ≡ sum.digest.0 → States (Leaf tree (entries_left shape entries ++ e ∷ [])) sum
      → CanAdd shape tree 0 (leaves_done shape tree entries) (Leaf tree (entries_left shape entries ++ e ∷ [])) link stream.levels.items later
  add_full e fits few later same link greatest sum number child states =
      add_leaf shape tree entries (entries_left shape entries ++ e ∷ []) stream.levels.items later
      (subst (λ (es : List Binding). AllByRecursion FitsTree es) (sym (whole_more e)) (all_both FitsTree entries (e ∷ []) taken.have_tree.fit (fits, tt)))
      (omega (arith, few, ap (length {A = Binding}) (whole_more e), length-append entries (e ∷ []))) taken.have_tree.few
      link (greatest ∙ sym (last_more (entries_left shape entries) e)) sum number child states
      (open_later shape tree (leaves_done shape tree entries) stream.levels.items (given stream.writer) later taken.levels same)

  -- and so can the leaf of what is pending at the end
  pub add_rest : (last_is : last_key (keys_of entries) ≡ last_key (keys_of (entries_left shape entries))) → (later : ℕ → List (List ℕ)) → ((level : ℕ) → level ≢ 0 → later level ≡ given stream.writer level)
      → (link : Link) → link.greatest ≡ stream.last.items → (sum : NodeSum) → link.number ≡ sum.number → link.child ≡ sum.digest.0 → States (Leaf tree (entries_left shape entries)) sum
      → CanAdd shape tree 0 (leaves_done shape tree entries) (Leaf tree (entries_left shape entries)) link stream.levels.items later
  add_rest last_is later same link greatest sum number child states =
      add_leaf shape tree entries (entries_left shape entries) stream.levels.items later
      (subst (λ (es : List Binding). AllByRecursion FitsTree es) (sym (left_joins shape entries)) taken.have_tree.fit)
      (omega (arith, taken.have_tree.few, ap (length {A = Binding}) (left_joins shape entries))) taken.have_tree.few
      link (greatest ∙ taken.last ∙ last_is) sum number child states
      (open_later shape tree (leaves_done shape tree entries) stream.levels.items (given stream.writer) later taken.levels same)

-- ---- the end

leaf_greatests : (tree : ℕ) (ps : List (List Binding)) → greatests_of (map link_to (map (Leaf tree) ps)) ≡ lasts (λ (e : Binding). e.key) ps
leaf_greatests tree [] = refl
leaf_greatests tree (p ∷ ps) = ap (λ (ks : List (List ℕ)). last_key (keys_of p) ∷ ks) (leaf_greatests tree ps)

last_leaf : (shape : Shape) (tree : ℕ) (entries : List Binding) → last_key (greatests_of (map link_to (leaves shape tree entries))) ≡ last_key (keys_of entries)
last_leaf shape tree [] = refl
last_leaf shape tree (e ∷ es) =
    let ps = pieces (ends_at shape) (e ∷ es) in
    ap (λ (qs : List (List Binding)). last_key (greatests_of (map link_to (map (Leaf tree) qs)))) (some_pieces (ends_at shape) (e ∷ es) (omega arith))
    ∙ ap last_key (leaf_greatests tree ps) ∙ lasts_join (λ (b : Binding). b.key) ps (pieces_sized shape is_marked_entry (e ∷ es))
    ∙ ap (λ (bs : List Binding). last_key (keys_of bs)) (pieces_join (ends_at shape) [] (e ∷ es))

-- all leaves are written
pub whole_leaves : (shape : Shape) (tree : ℕ) (entries : List Binding) (last : List ℕ) (opens : List OpenLevel) (given : ℕ → List (List ℕ)) → HasTree entries
    → last ≡ last_key (keys_of entries) → AreOpen shape tree 0 (leaves shape tree entries) opens given → given 0 ≡ map spelling (leaves shape tree entries)
    → IsWhole shape tree entries 0 last opens given
unfolding levels
whole_leaves shape tree entries last opens given has last_is opened written = record {
  within_tree = omega arith;
  levels_are = opened;
  below = below_leaves;
  most = 30;
  up = omega arith;
  few = omega (arith, leaves_few shape tree entries 536870912 (omega arith) has.few);
  within = within_leaves tree (one_at_least (pieces (ends_at shape) entries))
      (subst (λ (es : List Binding). AllByRecursion FitsTree es) (sym all) has.fit) (omega (arith, has.few, ap (length {A = Binding}) all));
  ends = last_leaf shape tree entries ∙ sym last_is;
}
  where
    all : join (one_at_least (pieces (ends_at shape) entries)) ≡ entries
    all = least_joins (pieces (ends_at shape) entries) ∙ pieces_join (ends_at shape) [] entries

    below_leaves : (level : ℕ) → level ≤ 0 → given level ≡ map spelling (level_at (levels shape tree entries) level)
    below_leaves zero le = written
    below_leaves (suc level) le = absurd (omega (arith, le))

one_more : {X : Type 0} (ps : List (List X)) (p : List X) → one_at_least (ps ++ p ∷ []) ≡ ps ++ p ∷ []
one_more [] p = refl
one_more (q ∷ ps) p = refl

-- what is pending makes the last leaf, where an entry is pending
pub leaves_last : (shape : Shape) (tree : ℕ) (entries : List Binding) → 1 ≤ length (entries_left shape entries) → leaves shape tree entries ≡ leaves_done shape tree entries ++ Leaf tree (entries_left shape entries) ∷ []
leaves_last shape tree entries some =
    let done = done_by (ends_at shape) [] entries in
    let left = entries_left shape entries in
    ap (λ (ps : List (List Binding)). map (Leaf tree) (one_at_least ps)) (pieces_whole (ends_at shape) entries ∙ ap (λ (ps : List (List Binding)). done ++ ps) (last_piece (ends_at shape) left some))
    ∙ ap (map (Leaf tree)) (one_more done left) ∙ map-append (Leaf tree) done (left ∷ [])

-- where there is no entry
pub leaves_none : (shape : Shape) (tree : ℕ) (entries : List Binding) → length entries ≡ 0 → leaves shape tree entries ≡ leaves_done shape tree entries ++ Leaf tree (entries_left shape entries) ∷ []
leaves_none shape tree [] none = refl
leaves_none shape tree (e ∷ es) none = absurd (omega (arith, none))

-- nothing is pending, though there are entries
pub leaves_all : (shape : Shape) (tree : ℕ) (entries : List Binding) → length (entries_left shape entries) ≡ 0 → 1 ≤ length entries → leaves shape tree entries ≡ leaves_done shape tree entries
leaves_all shape tree entries none some =
    let done = done_by (ends_at shape) [] entries in
    ap (map (Leaf tree)) (some_pieces (ends_at shape) entries some ∙ pieces_whole (ends_at shape) entries ∙ ap (λ (ps : List (List Binding)). done ++ ps) (no_piece (ends_at shape) (entries_left shape entries) none) ∙ append-nil done)

-- the last key is that of what is pending, where anything is
pub last_left : (shape : Shape) (entries : List Binding) → 1 ≤ length (entries_left shape entries) → last_key (keys_of entries) ≡ last_key (keys_of (entries_left shape entries))
last_left shape entries some =
    ap (λ (es : List Binding). last_key (keys_of es)) (sym (left_joins shape entries)) ∙ last_append (λ (b : Binding). b.key) (join (done_by (ends_at shape) [] entries)) (entries_left shape entries) some

-- where no entry came, nothing is pending
pub last_none : (shape : Shape) (entries : List Binding) → length entries ≡ 0 → last_key (keys_of entries) ≡ last_key (keys_of (entries_left shape entries))
last_none shape [] none = refl
last_none shape (e ∷ es) none = absurd (omega (arith, none))
