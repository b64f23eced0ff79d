-- How the levels of a tree are closed, one after the other.
use Rattle.std.proofs.Common.{◌≡◌, ◌≢◌, ℕ, zero, suc, ◌+◌, ◌-◌, ◌*◌, ◌^◌, ◌<◌, ◌≤◌, List, [], ◌∷◌, ◌++◌, length, get_or, map, Bool, true, false, cond, Option, Some, None, ◌⊎◌, inl, inr, refl, sym, ap, subst, ◌∙◌, append_assoc, add-one, length-append, arith}
use Rattle.std.proofs.lemmas.List.{append-nil, length-map, map-append}
use Rattle.std.proofs.Math.Nat.{pow-suc}
use Rattle.tree_node.specs.Digests.{digest}
use Rattle.tree_node.specs.Nodes.{Binding, Link, Node, Inner, greatests_of, spelling}
use Rattle.tree_node.specs.Trees.{Shape, ends_by, entry_count, greatest_of, is_marked_link, last_key, leaves, level_at, level_over, levels, link_to, no_node, node_in, pieces, pieces_from, top_of}
use Rattle.tree_node.specs.declared.digest.Digest.{Digest}
use Rattle.tree_node.proofs.shared.PieceLemmas.{join, pieces_join, two_at_least}
use Rattle.tree_node.proofs.shared.PieceLaws.{lasts, pieces_sized}
use Rattle.tree_node.proofs.shared.TreeLaws.{above, has_at, last_has_one, pair_at, whole}
use Rattle.tree_node.proofs.shared.TreeLemmas.{level_half, tree_levels}
use Rattle.tree_stream.specs.declared.finish.Top.{Top}
use Rattle.tree_stream.specs.declared.level.OpenLevel.{OpenLevel}
use Rattle.tree_stream.specs.declared.node_sum.NodeSum.{NodeSum}
use Rattle.tree_stream.specs.internal.Cutting.{done_above, inner_done, links_left}
use Rattle.tree_build.specs.internal.Cutting.{done_by}
use Rattle.tree_stream.specs.internal.Finishing.{IsFinished, IsTopOver, IsWhole}
use Rattle.tree_stream.specs.internal.Holding.{HoldsAt, IsOnly}
use Rattle.tree_stream.specs.internal.Opening.{AreFew, AreOpen, CanAdd, CanClose}
use Rattle.tree_stream.specs.internal.Writing.{IsPut, States}
use Rattle.tree_build.specs.internal.Building.{AreWithin}
use Rattle.tree_stream.proofs.CutLemmas.{last_append, lasts_join, pieces_whole}
use Rattle.tree_stream.proofs.OpenLemmas.{AreKept, ends_in, first_pending, first_there, first_written, left_few, left_half, left_joins, link_same, none_above, open_above, open_kept}
use Rattle.tree_stream.proofs.WithinLemmas.{within_after, within_over}

joined : {X : Type 0} (ps : List (List X)) (p : List X) → join (ps ++ p ∷ []) ≡ join ps ++ p
joined [] p = append-nil p
joined {X} (q ∷ ps) p = ap (λ (ls : List X). q ++ ls) (joined ps p) ∙ sym (append_assoc q (join ps) p)

pub last_piece : {X : Type 0} (ends : ℕ → X → Bool) (left : List X) → 1 ≤ length left → pieces_from ends left [] ≡ left ∷ []
last_piece ends [] some = absurd (omega (arith, some))
last_piece ends (x ∷ xs) some = refl

pub no_piece : {X : Type 0} (ends : ℕ → X → Bool) (left : List X) → length left ≡ 0 → pieces_from ends left [] ≡ []
no_piece ends [] none = refl
no_piece ends (x ∷ xs) none = absurd (omega (arith, none))

-- ---- a level is closed

module _ (shape : Shape) (tree at : ℕ) (nodes : List Node) (last : List ℕ) (levels : List OpenLevel) (given : ℕ → List (List ℕ)) (can : CanClose shape tree at nodes last levels given) where
  abbrev done : List (List Link)
  done = done_by (ends_in shape) [] (map link_to nodes)

  abbrev pub left : List Link
  left = links_left shape nodes

  pub left_held : HoldsAt levels at left
  left_held = first_pending shape tree at nodes levels given can.levels_are

  pub close_there : at < length levels
  close_there = first_there shape tree at nodes levels given can.levels_are (omega (arith, can.many))

  over_is : level_over shape tree (at + 1) nodes ≡ inner_done shape tree (at + 1) nodes ++ map (Inner tree (at + 1)) (pieces_from (ends_in shape) left [])
  over_is = ap (map (Inner tree (at + 1))) (pieces_whole (ends_in shape) (map link_to nodes)) ∙ map-append (Inner tree (at + 1)) done (pieces_from (ends_in shape) left [])

  -- nothing is pending
  module _ (none : length left ≡ 0) where
    over_done : level_over shape tree (at + 1) nodes ≡ inner_done shape tree (at + 1) nodes
    over_done = over_is ∙ ap (λ (ps : List (List Link)). inner_done shape tree (at + 1) nodes ++ map (Inner tree (at + 1)) ps) (no_piece (ends_in shape) left none) ∙ append-nil (inner_done shape tree (at + 1) nodes)

    pub none_open : AreOpen shape tree (at + 1) (level_over shape tree (at + 1) nodes) levels given
    none_open = subst (λ (ns : List Node). AreOpen shape tree (at + 1) ns levels given) (sym over_done) (open_above shape tree at nodes levels given can.levels_are)

    pub none_written : given (at + 1) ≡ map spelling (level_over shape tree (at + 1) nodes)
    none_written = first_written shape tree at nodes levels given can.levels_are ∙ ap (map spelling) (sym over_done)

  pub left_short : length left ≤ 64
  left_short = omega (arith, left_few shape nodes)

  pub left_within : AreWithin left
  left_within = within_after (join done) left (subst (λ (ls : List Link). AreWithin ls) (sym (left_joins shape nodes)) can.within)

  most_some : (most : ℕ) → length nodes ≤ 2 ^ most → 1 ≤ most
  most_some zero le = absurd (omega (arith, le, can.many))
  most_some (suc most) le = omega arith

  pub close_low : at < 30
  close_low = omega (arith, most_some can.most can.few, can.up)

  -- something is pending: its node is the last of its level
  module _ (some : 1 ≤ length left) where
    abbrev pub last_node : Node
    last_node = Inner tree (at + 1) left

    over_more : level_over shape tree (at + 1) nodes ≡ inner_done shape tree (at + 1) nodes ++ last_node ∷ []
    over_more = over_is ∙ ap (λ (ps : List (List Link)). inner_done shape tree (at + 1) nodes ++ map (Inner tree (at + 1)) ps) (last_piece (ends_in shape) left some)

    few_next : (most : ℕ) → at + most ≡ 30 → length nodes ≤ 2 ^ most → AreFew (at + 1) (inner_done shape tree (at + 1) nodes)
    few_next zero up le = absurd (omega (arith, le, can.many))
    few_next (suc most) up le = record {
      most = most;
      up = omega (arith, up);
      below = omega (arith, pow-suc 2 most, le, some, left_half shape tree (at + 1) nodes);
    }

    last_is : last ≡ greatest_of last_node
    last_is =
        sym can.ends ∙ ap (λ (ls : List Link). last_key (greatests_of ls)) (sym (left_joins shape nodes)) ∙ last_append (λ (l : Link). l.greatest) (join done) left some

    within_next : AreWithin (map link_to (inner_done shape tree (at + 1) nodes ++ last_node ∷ []))
    within_next =
        let all : join (done ++ left ∷ []) ≡ map link_to nodes = joined done left ∙ left_joins shape nodes in
        subst (λ (ns : List Node). AreWithin (map link_to ns)) (map-append (Inner tree (at + 1)) done (left ∷ []))
        (within_over tree (at + 1) (done ++ left ∷ []) (subst (λ (ls : List Link). AreWithin ls) (sym all) can.within))

    module _ (others : List OpenLevel) (later : ℕ → List (List ℕ)) (put : IsPut given later (at + 1) last_node) where
      pub close_add : (link : Link) → link.greatest ≡ last → (sum : NodeSum) → link.number ≡ sum.number → link.child ≡ sum.digest.0 → States last_node sum
          → ((place : ℕ) (links : List Link) → place ≢ at → HoldsAt levels place links → HoldsAt others place links) → length others ≡ length levels
          → CanAdd shape tree (at + 1) (inner_done shape tree (at + 1) nodes) last_node link others later
      close_add link greatest sum number child states rest len = record {
        stands =
            let k : link.greatest ≡ greatest_of last_node = greatest ∙ last_is in
            let n : link.number ≡ entry_count last_node = number ∙ states.number in
            link_same link (link_to last_node) k n (child ∙ states.child);
        levels_are = open_kept shape tree (at + 1) (inner_done shape tree (at + 1) nodes) levels others given later (open_above shape tree at nodes levels given can.levels_are) (record {
          held = λ place links le. rest place links (omega (arith, le));
          same = λ level lt. put.others level (omega (arith, lt));
          fewer = λ place le lt. omega (arith, le, lt, len);
          more = λ place le lt. omega (arith, le, lt, len);
        });
        few = few_next can.most can.up can.few;
        within = within_next;
        reach = omega (arith, len, close_there);
      }

      pub close_open : (end : List OpenLevel) (final : ℕ → List (List ℕ)) → AreOpen shape tree (at + 1) (inner_done shape tree (at + 1) nodes ++ last_node ∷ []) end final
          → AreOpen shape tree (at + 1) (level_over shape tree (at + 1) nodes) end final
      close_open end final so = subst (λ (ns : List Node). AreOpen shape tree (at + 1) ns end final) (sym over_more) so

      pub close_written : (final : ℕ → List (List ℕ)) → ((level : ℕ) → level ≤ at + 1 → final level ≡ later level) → final (at + 1) ≡ map spelling (level_over shape tree (at + 1) nodes)
      close_written final same =
          same (at + 1) (omega arith) ∙ put.here ∙ ap (λ (bs : List (List ℕ)). bs ++ spelling last_node ∷ []) (first_written shape tree at nodes levels given can.levels_are)
          ∙ sym (map-append spelling (inner_done shape tree (at + 1) nodes) (last_node ∷ [])) ∙ ap (map spelling) (sym over_more)

-- ---- the top

none_mapped : {X Y : Type 0} (f : X → Y) (xs : List X) → map f xs ≡ [] → xs ≡ []
none_mapped f [] e = refl
none_mapped f (x ∷ xs) e = absurd cc

pub top_of_only : (o : Option Digest) (nodes : List Node) → IsOnly o (map link_to nodes) → IsTopOver o nodes
top_of_only None nodes only = λ one. only (omega (arith, one, length-map nodes link_to))
top_of_only (Some key) [] only = let e = only.1 in absurd cc
top_of_only (Some key) (n ∷ []) only =
    let e : link_to n ≡ only.0 = let all = only.1 in cc in
    (n, refl, only.2 ∙ ap (λ (l : Link). l.child) (sym e))
top_of_only (Some key) (n ∷ m ∷ ns) only = let e = only.1 in absurd cc

module _ (shape : Shape) (tree at : ℕ) (nodes : List Node) (levels : List OpenLevel) (given : ℕ → List (List ℕ)) (so : AreOpen shape tree at nodes levels given) where
  -- the last level that is there holds an item for each node
  pub left_all : at + 1 ≡ length levels → links_left shape nodes ≡ map link_to nodes
  left_all end =
      let none : inner_done shape tree (at + 1) nodes ≡ [] = so.past (suc zero) (omega (arith, end)) in
      let no_done : done_by (ends_in shape) [] (map link_to nodes) ≡ [] = none_mapped (Inner tree (at + 1)) (done_by (ends_in shape) [] (map link_to nodes)) none in
      ap (λ (ps : List (List Link)). join ps ++ links_left shape nodes) (sym no_done) ∙ left_joins shape nodes

  -- below another one there are more nodes
  pub not_one : at < length levels → at + 1 ≢ length levels → length nodes ≢ 1
  not_one lt more = λ one.
      let some = so.there (suc zero) (omega (arith, lt, more)) in
      absurd (omega (arith, one, some, left_half shape tree (at + 1) nodes))

-- ---- the levels of a tree

past_end : {X : Type 0} (xs : List X) (n : ℕ) (d : X) → length xs ≤ n → get_or xs n d ≡ d
past_end [] n d le = refl
past_end (x ∷ xs) zero d le = absurd (omega (arith, le))
past_end (x ∷ xs) (suc n) d le = past_end xs n d (omega (arith, le))

inner_greatests : (tree level : ℕ) (ps : List (List Link)) → greatests_of (map link_to (map (Inner tree level) ps)) ≡ lasts (λ (l : Link). l.greatest) ps
inner_greatests tree level [] = refl
inner_greatests tree level (p ∷ ps) = ap (λ (ks : List (List ℕ)). last_key (greatests_of p) ∷ ks) (inner_greatests tree level ps)

module _ (shape : Shape) (tree : ℕ) (entries : List Binding) (at : ℕ) (last : List ℕ) (opens : List OpenLevel) (given : ℕ → List (List ℕ)) (so : IsWhole shape tree entries at last opens given) where
  abbrev all : List (List Node)
  all = levels shape tree entries

  abbrev pub here : List Node
  here = level_at (levels shape tree entries) at

  pub some_here : 1 ≤ length here
  unfolding levels
  some_here = has_at shape tree entries at so.within_tree

  pub whole_there : at < length opens
  whole_there = first_there shape tree at here opens given so.levels_are some_here

  last_one : length (level_at all (length all - 1)) ≡ 1
  unfolding levels
  last_one = last_has_one shape tree 1 (leaves shape tree entries) (above shape tree entries) (tree_levels shape tree entries)

  in_or_last : (at + 1 < length all) ⊎ (at ≡ length all - 1)
  in_or_last = by (length all) so.within_tree
    where
      by : (n : ℕ) → at < n → (at + 1 < n) ⊎ (at ≡ n - 1)
      by n lt = grind (arith, lt)

  -- below the top there is a level over this one
  higher : length here ≢ 1 → at + 1 < length all
  higher more = elim in_or_last [
    | inl lt ↦ lt
    | inr e ↦ absurd (more (ap (λ n. length (level_at all n)) e ∙ last_one))
  ]

  next_pair : at + 1 < length all → (2 ≤ length here) × (level_at all (at + 1) ≡ level_over shape tree (at + 1) here)
  unfolding levels
  next_pair lt =
      let lower : suc at < length (whole shape tree entries) = omega (arith, lt) in
      let pair = pair_at shape tree entries at lower in
      (pair.0, ap (level_at (whole shape tree entries)) (add-one at) ∙ pair.1 ∙ ap (λ n. level_over shape tree n (level_at (whole shape tree entries) at)) (sym (add-one at)))

  pub whole_close : length here ≢ 1 → CanClose shape tree at here last opens given
  whole_close more = record {
    levels_are = so.levels_are;
    most = so.most;
    up = so.up;
    few = so.few;
    many = (next_pair (higher more)).0;
    within = so.within;
    ends = so.ends;
  }

  few_above : (most : ℕ) → at + most ≡ 30 → length here ≤ 2 ^ most → length here ≢ 1 → (m : ℕ) × (at + 1 + m ≡ 30) × (length (level_over shape tree (at + 1) here) ≤ 2 ^ m)
  few_above zero up le more = absurd (omega (arith, le, more, some_here))
  few_above (suc most) up le more = (most, omega (arith, up), omega (arith, pow-suc 2 most, le, level_half shape tree (at + 1) here))

  pub whole_next : length here ≢ 1 → (others : List OpenLevel) (later : ℕ → List (List ℕ)) → AreOpen shape tree (at + 1) (level_over shape tree (at + 1) here) others later
      → later (at + 1) ≡ map spelling (level_over shape tree (at + 1) here) → ((level : ℕ) → level ≤ at → later level ≡ given level) → IsWhole shape tree entries (at + 1) last others later
  whole_next more others later opened written same =
      let e : level_at all (at + 1) ≡ level_over shape tree (at + 1) here = (next_pair (higher more)).1 in
      let next = few_above so.most so.up so.few more in
      let links = map link_to here in
      let ps = pieces (ends_in shape) links in
      let joins : join ps ≡ links = pieces_join (ends_in shape) [] links in
      record {
        within_tree = higher more;
        levels_are = subst (λ (ns : List Node). AreOpen shape tree (at + 1) ns others later) (sym e) opened;
        below = λ level le. below_next level le (written ∙ ap (map spelling) (sym e)) same;
        most = next.0;
        up = next.1;
        few = subst (λ (ns : List Node). length ns ≤ 2 ^ next.0) (sym e) next.2;
        within = subst (λ (ns : List Node). AreWithin (map link_to ns)) (sym e) (within_over tree (at + 1) ps (subst (λ (ls : List Link). AreWithin ls) (sym joins) so.within));
        ends = ap (λ (ns : List Node). last_key (greatests_of (map link_to ns))) e ∙ ap last_key (inner_greatests tree (at + 1) ps)
            ∙ lasts_join (λ (l : Link). l.greatest) ps (pieces_sized shape is_marked_link links) ∙ ap (λ (ls : List Link). last_key (greatests_of ls)) joins ∙ so.ends;
      }
    where
      below_next : (level : ℕ) → level ≤ at + 1 → later (at + 1) ≡ map spelling (level_at all (at + 1)) → ((l : ℕ) → l ≤ at → later l ≡ given l) → later level ≡ map spelling (level_at all level)
      below_next level le top rest = elim (low_or level le) [
        | inl low ↦ rest level low ∙ so.below level low
        | inr e ↦ subst (λ n. later n ≡ map spelling (level_at all n)) (sym e) top
      ]
        where
          low_or : (l : ℕ) → l ≤ at + 1 → (l ≤ at) ⊎ (l ≡ at + 1)
          low_or l h = grind (arith, h)

  -- the only node of the level is the top
  module _ (node : Node) (one : here ≡ node ∷ []) where
    one_here : length here ≡ 1
    one_here = ap (length {A = Node}) one

    at_end : length all ≡ at + 1
    at_end = elim in_or_last [
      | inl lt ↦ absurd (omega (arith, one_here, (next_pair lt).0))
      | inr e ↦ omega (arith, e, so.within_tree)
    ]

    none_over : inner_done shape tree (at + 1) here ≡ []
    none_over = ap (inner_done shape tree (at + 1)) one ∙ ap (λ b. map (Inner tree (at + 1)) (cond b ((link_to node ∷ []) ∷ []) [])) (two_at_least shape is_marked_link (link_to node))

    past_written : (up : ℕ) → given (at + suc up) ≡ map spelling (level_at all (at + suc up))
    past_written up =
        so.levels_are.written up
        ∙ ap (λ (ns : List Node). map spelling (done_above shape tree (at + 1) ns up)) none_over ∙ ap (map spelling) (none_above shape tree (at + 1) up)
        ∙ ap (map spelling) (sym (past_end all (at + suc up) [] (omega (arith, at_end))))

    all_written : (level : ℕ) → given level ≡ map spelling (level_at all level)
    all_written level = elim (low_or level) [
      | inl low ↦ so.below level low
      | inr high ↦ subst (λ n. given n ≡ map spelling (level_at all n)) (sym high.1) (past_written high.0)
    ]
      where
        low_or : (l : ℕ) → (l ≤ at) ⊎ ((up : ℕ) × (l ≡ at + suc up))
        low_or l = elim (order l) [
          | inl low ↦ inl low
          | inr high ↦ inr (l - at - 1, omega (arith, high))
        ]
          where
            order : (n : ℕ) → (n ≤ at) ⊎ (at < n)
            order n = grind arith

    pub finished : (top : Top) → top.level ≡ at → top.digest.0 ≡ digest (spelling node) → IsFinished shape tree entries given top
    finished top level digest_is = record {
      written = all_written;
      level = omega (arith, level, at_end);
      digest_is =
          let short : length all - 1 ≡ at = omega (arith, at_end) in
          digest_is ∙ ap digest (sym (ap (λ n. spelling (node_in all n 0)) short ∙ ap (λ (ns : List Node). spelling (get_or ns 0 no_node)) one));
    }
