-- How far the levels of a tree have come, and how they go on with one node more.
use Rattle.std.proofs.Common.{◌≡◌, ◌≢◌, ℕ, zero, suc, ◌+◌, ◌-◌, ◌*◌, ◌^◌, ◌<◌, ◌≤◌, List, [], ◌∷◌, ◌++◌, length, map, Bool, true, false, cond, refl, sym, ap, subst, ◌∙◌, append_assoc, length-append, arith}
use Rattle.std.proofs.lemmas.List.{append-nil, length-map, map-append}
use Rattle.std.proofs.Math.Nat.{pow-suc}
use Rattle.tree_node.specs.Nodes.{Link, Node, Inner, greatests_of, spelling}
use Rattle.tree_node.specs.Trees.{Shape, ends_by, entry_count, greatest_of, is_marked_link, last_key, link_to}
use Rattle.tree_node.proofs.shared.PieceLemmas.{join, two_at_least}
use Rattle.tree_node.proofs.shared.TreeLemmas.{numbers_of}
use Rattle.tree_stream.specs.declared.level.OpenLevel.{OpenLevel}
use Rattle.tree_stream.specs.declared.node_sum.NodeSum.{NodeSum}
use Rattle.tree_stream.specs.internal.Cutting.{done_above, inner_done, links_left}
use Rattle.tree_build.specs.internal.Cutting.{done_by, pending_after}
use Rattle.tree_stream.specs.internal.Holding.{HoldsAt}
use Rattle.tree_stream.specs.internal.Opening.{AreFew, AreOpen, CanAdd}
use Rattle.tree_stream.specs.internal.Writing.{IsPut, States}
use Rattle.tree_build.specs.internal.Building.{AreWithin}
use Rattle.tree_stream.proofs.CutLemmas.{done_half, done_more, last_append, pending_few, pending_joins, pending_more}
use Rattle.tree_stream.proofs.WithinLemmas.{within_after, within_over}

-- where a level's pieces end
abbrev pub ends_in : Shape → ℕ → Link → Bool
ends_in shape = ends_by shape is_marked_link

-- two items that say the same are the same
pub link_same : (a b : Link) → a.greatest ≡ b.greatest → a.number ≡ b.number → a.child ≡ b.child → a ≡ b
link_same a b greatest number child =
    let like = λ (g : List ℕ) (n : ℕ) (c : List ℕ). let l : Link = record { greatest = g; number = n; child = c } in l in
    ap (λ (g : List ℕ). like g a.number a.child) greatest ∙ ap (λ (n : ℕ). like b.greatest n a.child) number ∙ ap (λ (c : List ℕ). like b.greatest b.number c) child

-- ---- one node more

pub left_more : (shape : Shape) (nodes : List Node) (node : Node)
    → links_left shape (nodes ++ node ∷ []) ≡ cond (ends_in shape (length (links_left shape nodes) + 1) (link_to node)) [] (links_left shape nodes ++ link_to node ∷ [])
left_more shape nodes node =
    ap (pending_after (ends_in shape) []) (map-append link_to nodes (node ∷ [])) ∙ pending_more (ends_in shape) (map link_to nodes) (link_to node)

mapped : {X Y : Type 0} (f : X → Y) (b : Bool) (x : X) → map f (cond b (x ∷ []) []) ≡ cond b (f x ∷ []) []
mapped f true x = refl
mapped f false x = refl

pub inner_more : (shape : Shape) (tree level : ℕ) (nodes : List Node) (node : Node)
    → inner_done shape tree level (nodes ++ node ∷ [])
    ≡ inner_done shape tree level nodes ++ cond (ends_in shape (length (links_left shape nodes) + 1) (link_to node)) (Inner tree level (links_left shape nodes ++ link_to node ∷ []) ∷ []) []
inner_more shape tree level nodes node =
    let ended = ends_in shape (length (links_left shape nodes) + 1) (link_to node) in
    let piece = links_left shape nodes ++ link_to node ∷ [] in
    ap (λ (ls : List Link). map (Inner tree level) (done_by (ends_in shape) [] ls)) (map-append link_to nodes (node ∷ []))
    ∙ ap (map (Inner tree level)) (done_more (ends_in shape) (map link_to nodes) (link_to node))
    ∙ map-append (Inner tree level) (done_by (ends_in shape) [] (map link_to nodes)) (cond ended (piece ∷ []) [])
    ∙ ap (λ (ns : List Node). inner_done shape tree level nodes ++ ns) (mapped (Inner tree level) ended piece)

-- the pieces that are done have two items or more, and what is pending comes after them
pub left_half : (shape : Shape) (tree level : ℕ) (nodes : List Node) → 2 * length (inner_done shape tree level nodes) + length (links_left shape nodes) ≤ length nodes
left_half shape tree level nodes =
    let half = done_half (ends_in shape) (two_at_least shape is_marked_link) [] (map link_to nodes) in
    omega (arith, half, length-map (done_by (ends_in shape) [] (map link_to nodes)) (Inner tree level), length-map nodes link_to)

pub left_joins : (shape : Shape) (nodes : List Node) → join (done_by (ends_in shape) [] (map link_to nodes)) ++ links_left shape nodes ≡ map link_to nodes
left_joins shape nodes = pending_joins (ends_in shape) [] (map link_to nodes)

pub left_few : (shape : Shape) (nodes : List Node) → length (links_left shape nodes) < 64
left_few shape nodes = pending_few shape is_marked_link [] (map link_to nodes) (omega arith)

-- over no nodes there are none
pub none_above : (shape : Shape) (tree at : ℕ) (up : ℕ) → done_above shape tree at [] up ≡ []
none_above shape tree at zero = refl
none_above shape tree at (suc up) = none_above shape tree (at + 1) up

-- ---- levels from one on

pub open_above : (shape : Shape) (tree at : ℕ) (nodes : List Node) (levels : List OpenLevel) (given : ℕ → List (List ℕ))
    → AreOpen shape tree at nodes levels given → AreOpen shape tree (at + 1) (inner_done shape tree (at + 1) nodes) levels given
open_above shape tree at nodes levels given so = record {
  pending = λ up. let here : at + suc up ≡ at + 1 + up = omega arith in
      subst (λ (n : ℕ). HoldsAt levels n (links_left shape (done_above shape tree at nodes (suc up)))) here (so.pending (suc up));
  written = λ up. let here : at + suc (suc up) ≡ at + 1 + suc up = omega arith in
      ap given (sym here) ∙ so.written (suc up);
  there = λ up lt. so.there (suc up) (omega (arith, lt));
  past = λ up le. so.past (suc up) (omega (arith, le));
}

pub open_join : (shape : Shape) (tree at : ℕ) (nodes : List Node) (levels : List OpenLevel) (given : ℕ → List (List ℕ))
    → HoldsAt levels at (links_left shape nodes) → given (at + 1) ≡ map spelling (inner_done shape tree (at + 1) nodes) → at < length levels → 1 ≤ length nodes
    → AreOpen shape tree (at + 1) (inner_done shape tree (at + 1) nodes) levels given → AreOpen shape tree at nodes levels given
open_join shape tree at nodes levels given held written reach some above = record {
  pending = pending_at;
  written = written_at;
  there = there_at;
  past = past_at;
}
  where
    pending_at : (up : ℕ) → HoldsAt levels (at + up) (links_left shape (done_above shape tree at nodes up))
    pending_at zero = let here : at ≡ at + zero = omega arith in subst (λ (n : ℕ). HoldsAt levels n (links_left shape nodes)) here held
    pending_at (suc up) = let here : at + 1 + up ≡ at + suc up = omega arith in
        subst (λ (n : ℕ). HoldsAt levels n (links_left shape (done_above shape tree at nodes (suc up)))) here (above.pending up)

    written_at : (up : ℕ) → given (at + suc up) ≡ map spelling (done_above shape tree at nodes (suc up))
    written_at zero = let here : at + suc zero ≡ at + 1 = omega arith in ap given here ∙ written
    written_at (suc up) = let here : at + suc (suc up) ≡ at + 1 + suc up = omega arith in ap given here ∙ above.written up

    there_at : (up : ℕ) → at + up < length levels → 1 ≤ length (done_above shape tree at nodes up)
    there_at zero lt = some
    there_at (suc up) lt = above.there up (omega (arith, lt))

    past_at : (up : ℕ) → length levels ≤ at + up → done_above shape tree at nodes up ≡ []
    past_at zero le = absurd (omega (arith, le, reach))
    past_at (suc up) le = above.past up (omega (arith, le))

-- what the levels from one on hold stays, and so do the nodes over them
pub record AreKept (at : ℕ) (levels others : List OpenLevel) (given later : ℕ → List (List ℕ)) : Type 0 where
  pub held : (place : ℕ) (links : List Link) → at ≤ place → HoldsAt levels place links → HoldsAt others place links
  pub same : (level : ℕ) → at < level → later level ≡ given level
  pub fewer : (place : ℕ) → at ≤ place → place < length others → place < length levels
  pub more : (place : ℕ) → at ≤ place → length others ≤ place → length levels ≤ place

pub open_kept : (shape : Shape) (tree at : ℕ) (nodes : List Node) (levels others : List OpenLevel) (given later : ℕ → List (List ℕ))
    → AreOpen shape tree at nodes levels given → AreKept at levels others given later → AreOpen shape tree at nodes others later
open_kept shape tree at nodes levels others given later so kept = record {
  pending = λ up. kept.held (at + up) (links_left shape (done_above shape tree at nodes up)) (omega arith) (so.pending up);
  written = λ up. kept.same (at + suc up) (omega arith) ∙ so.written up;
  there = λ up lt. so.there up (kept.fewer (at + up) (omega arith) lt);
  past = λ up le. so.past up (kept.more (at + up) (omega arith) le);
}

-- what is pending at the first of the levels
pub first_pending : (shape : Shape) (tree at : ℕ) (nodes : List Node) (levels : List OpenLevel) (given : ℕ → List (List ℕ)) → AreOpen shape tree at nodes levels given → HoldsAt levels at (links_left shape nodes)
first_pending shape tree at nodes levels given so =
    let here : at + zero ≡ at = omega arith in subst (λ (n : ℕ). HoldsAt levels n (links_left shape nodes)) here (so.pending zero)

pub first_written : (shape : Shape) (tree at : ℕ) (nodes : List Node) (levels : List OpenLevel) (given : ℕ → List (List ℕ)) → AreOpen shape tree at nodes levels given
    → given (at + 1) ≡ map spelling (inner_done shape tree (at + 1) nodes)
first_written shape tree at nodes levels given so =
    let here : at + 1 ≡ at + suc zero = omega arith in ap given here ∙ so.written zero

-- a level is there where nodes are
pub first_there : (shape : Shape) (tree at : ℕ) (nodes : List Node) (levels : List OpenLevel) (given : ℕ → List (List ℕ)) → AreOpen shape tree at nodes levels given → 1 ≤ length nodes → at < length levels
first_there shape tree at nodes levels given so some = by_size (length levels) refl
  where
    by_size : (n : ℕ) → n ≡ length levels → at < length levels
    by_size n is = grind (arith, reach)
      where
        reach : length levels ≤ at → ⊥
        reach le = absurd (omega (arith, ap (length {A = Node}) (so.past zero (omega (arith, le))), some))

-- ---- a node is added

module _ (shape : Shape) (tree at : ℕ) (nodes : List Node) (node : Node) (link : Link) (levels : List OpenLevel) (given : ℕ → List (List ℕ)) (can : CanAdd shape tree at nodes node link levels given) where
  -- the items of the level with the one that stands for the node
  abbrev pub piece : List Link
  piece = links_left shape nodes ++ link ∷ []

  pub piece_held : HoldsAt levels at (links_left shape nodes)
  piece_held = first_pending shape tree at nodes levels given can.levels_are

  piece_is : links_left shape nodes ++ link_to node ∷ [] ≡ piece
  piece_is = ap (λ (l : Link). links_left shape nodes ++ l ∷ []) (sym can.stands)

  pub piece_few : length piece ≤ 64
  piece_few = omega (arith, left_few shape nodes, length-append (links_left shape nodes) (link ∷ []))

  whole : join (done_by (ends_in shape) [] (map link_to nodes)) ++ piece ≡ map link_to (nodes ++ node ∷ [])
  whole =
      sym (append_assoc (join (done_by (ends_in shape) [] (map link_to nodes))) (links_left shape nodes) (link ∷ []))
      ∙ ap (λ (ls : List Link). ls ++ link ∷ []) (left_joins shape nodes)
      ∙ ap (λ (l : Link). map link_to nodes ++ l ∷ []) can.stands
      ∙ sym (map-append link_to nodes (node ∷ []))

  all_within : AreWithin (join (done_by (ends_in shape) [] (map link_to nodes)) ++ piece)
  all_within = subst (λ (ls : List Link). AreWithin ls) (sym whole) can.within

  pub piece_within : AreWithin piece
  piece_within = within_after (join (done_by (ends_in shape) [] (map link_to nodes))) piece all_within

  -- the level after the item, where its piece goes on
  pub add_open : (ended : Bool) → ended ≡ ends_in shape (length (links_left shape nodes) + 1) link → ended ≡ false → (others : List OpenLevel)
      → HoldsAt others at piece → ((place : ℕ) (links : List Link) → place ≢ at → HoldsAt levels place links → HoldsAt others place links)
      → length others ≡ length levels + (at + 1 - length levels) → AreOpen shape tree at (nodes ++ node ∷ []) others given
  add_open ended told goes_on others here rest len =
      let e : ends_in shape (length (links_left shape nodes) + 1) (link_to node) ≡ false = ap (ends_in shape (length (links_left shape nodes) + 1)) (sym can.stands) ∙ sym told ∙ goes_on in
      let left : links_left shape (nodes ++ node ∷ []) ≡ piece = left_more shape nodes node ∙ ap (λ b. cond b [] (links_left shape nodes ++ link_to node ∷ [])) e ∙ piece_is in
      let done : inner_done shape tree (at + 1) (nodes ++ node ∷ []) ≡ inner_done shape tree (at + 1) nodes =
      inner_more shape tree (at + 1) nodes node ∙ ap (λ b. inner_done shape tree (at + 1) nodes ++ cond b (Inner tree (at + 1) (links_left shape nodes ++ link_to node ∷ []) ∷ []) []) e
      ∙ append-nil (inner_done shape tree (at + 1) nodes) in
      let kept : AreKept (at + 1) levels others given given = record {
        held = λ place links le. rest place links (omega (arith, le));
        same = λ level lt. refl;
        fewer = λ place le lt. omega (arith, le, lt, len, can.reach);
        more = λ place le lt. omega (arith, le, lt, len, can.reach);
      } in
      let above = open_kept shape tree (at + 1) (inner_done shape tree (at + 1) nodes) levels others given given (open_above shape tree at nodes levels given can.levels_are) kept in
      open_join shape tree at (nodes ++ node ∷ []) others given
      (subst (λ (ls : List Link). HoldsAt others at ls) (sym left) here)
      (first_written shape tree at nodes levels given can.levels_are ∙ ap (map spelling) (sym done))
      (omega (arith, len, can.reach))
      (omega (arith, length-append nodes (node ∷ [])))
      (subst (λ (ns : List Node). AreOpen shape tree (at + 1) ns others given) (sym done) above)

  -- the piece ends
  module _ (ended : Bool) (told : ended ≡ ends_in shape (length (links_left shape nodes) + 1) link) (yes : ended ≡ true) where
    goes : ends_in shape (length (links_left shape nodes) + 1) (link_to node) ≡ true
    goes = ap (ends_in shape (length (links_left shape nodes) + 1)) (sym can.stands) ∙ sym told ∙ yes

    -- so it has two items or more
    not_first : 1 ≤ length (links_left shape nodes)
    not_first = by (links_left shape nodes) goes
      where
        by : (ls : List Link) → ends_in shape (length ls + 1) (link_to node) ≡ true → 1 ≤ length ls
        by [] e = let first : ends_in shape 1 (link_to node) ≡ false = two_at_least shape is_marked_link (link_to node) in absurd cc
        by (l ∷ ls) e = omega arith

    some_nodes : 1 ≤ length nodes
    some_nodes = omega (arith, left_half shape tree (at + 1) nodes, not_first)

    most_some : 1 ≤ can.few.most
    most_some = by can.few.most can.few.below
      where
        by : (most : ℕ) → length nodes < 2 ^ most → 1 ≤ most
        by zero lt = absurd (omega (arith, lt, some_nodes))
        by (suc most) lt = omega arith

    pub low : at < 30
    low = omega (arith, most_some, can.few.up)

    -- the node of the piece
    abbrev pub parent : Node
    parent = Inner tree (at + 1) piece

    few_next : (most : ℕ) → at + most ≡ 30 → length nodes < 2 ^ most → AreFew (at + 1) (inner_done shape tree (at + 1) nodes)
    few_next zero up lt = absurd (omega (arith, lt, some_nodes))
    few_next (suc most) up lt = record {
      most = most;
      up = omega (arith, up);
      below = omega (arith, pow-suc 2 most, lt, left_half shape tree (at + 1) nodes);
    }

    done_next : inner_done shape tree (at + 1) nodes ++ parent ∷ [] ≡ map (Inner tree (at + 1)) (done_by (ends_in shape) [] (map link_to nodes) ++ piece ∷ [])
    done_next = sym (map-append (Inner tree (at + 1)) (done_by (ends_in shape) [] (map link_to nodes)) (piece ∷ []))

    joined : (ps : List (List Link)) (p : List Link) → join (ps ++ p ∷ []) ≡ join ps ++ p
    joined [] p = append-nil p
    joined (q ∷ ps) p = ap (λ (ls : List Link). q ++ ls) (joined ps p) ∙ sym (append_assoc q (join ps) p)

    within_next : AreWithin (map link_to (inner_done shape tree (at + 1) nodes ++ parent ∷ []))
    within_next = subst (λ (ns : List Node). AreWithin (map link_to ns)) (sym done_next)
        (within_over tree (at + 1) (done_by (ends_in shape) [] (map link_to nodes) ++ piece ∷ [])
        (subst (λ (ls : List Link). AreWithin ls) (sym (joined (done_by (ends_in shape) [] (map link_to nodes)) piece)) all_within))

    above_kept : (others : List OpenLevel) (later : ℕ → List (List ℕ)) → ((place : ℕ) (links : List Link) → place ≢ at → HoldsAt levels place links → HoldsAt others place links)
        → length others ≡ length levels + (at + 1 - length levels) → ((level : ℕ) → level ≢ at + 1 → later level ≡ given level)
        → AreOpen shape tree (at + 1) (inner_done shape tree (at + 1) nodes) others later
    above_kept others later rest len same =
        open_kept shape tree (at + 1) (inner_done shape tree (at + 1) nodes) levels others given later (open_above shape tree at nodes levels given can.levels_are) (record {
          held = λ place links le. rest place links (omega (arith, le));
          same = λ level lt. same level (omega (arith, lt));
          fewer = λ place le lt. omega (arith, le, lt, len, can.reach);
          more = λ place le lt. omega (arith, le, lt, len, can.reach);
        })

    -- the node of the piece can be added to the levels over it
    pub add_next : (next : Link) → next.greatest ≡ link.greatest → (sum : NodeSum) → next.number ≡ sum.number → next.child ≡ sum.digest.0 → States parent sum
        → (others : List OpenLevel) (later : ℕ → List (List ℕ)) → ((place : ℕ) (links : List Link) → place ≢ at → HoldsAt levels place links → HoldsAt others place links)
        → length others ≡ length levels + (at + 1 - length levels) → ((level : ℕ) → level ≢ at + 1 → later level ≡ given level)
        → CanAdd shape tree (at + 1) (inner_done shape tree (at + 1) nodes) parent next others later
    add_next next greatest sum number child states others later rest len same = record {
      stands =
          let k : next.greatest ≡ greatest_of parent = greatest ∙ sym (last_append (λ (l : Link). l.greatest) (links_left shape nodes) (link ∷ []) (omega arith)) in
          let n : next.number ≡ entry_count parent = number ∙ states.number in
          link_same next (link_to parent) k n (child ∙ states.child);
      levels_are = above_kept others later rest len same;
      few = few_next can.few.most can.few.up can.few.below;
      within = within_next;
      reach = omega (arith, len, can.reach);
    }

    -- and with that all are as they are over the nodes and this one
    pub add_closed : (mid others : List OpenLevel) (later last : ℕ → List (List ℕ)) → HoldsAt mid at [] → IsPut given later (at + 1) parent
        → ((place : ℕ) (links : List Link) → place < at + 1 → HoldsAt mid place links → HoldsAt others place links)
        → ((level : ℕ) → level ≤ at + 1 → last level ≡ later level) → at + 1 < length others
        → AreOpen shape tree (at + 1) (inner_done shape tree (at + 1) nodes ++ parent ∷ []) others last
        → AreOpen shape tree at (nodes ++ node ∷ []) others last
    add_closed mid others later last here put below same reach above =
        let left : links_left shape (nodes ++ node ∷ []) ≡ [] = left_more shape nodes node ∙ ap (λ b. cond b [] (links_left shape nodes ++ link_to node ∷ [])) goes in
        let done : inner_done shape tree (at + 1) (nodes ++ node ∷ []) ≡ inner_done shape tree (at + 1) nodes ++ parent ∷ [] =
        inner_more shape tree (at + 1) nodes node ∙ ap (λ b. inner_done shape tree (at + 1) nodes ++ cond b (Inner tree (at + 1) (links_left shape nodes ++ link_to node ∷ []) ∷ []) []) goes
        ∙ ap (λ (p : List Link). inner_done shape tree (at + 1) nodes ++ Inner tree (at + 1) p ∷ []) piece_is in
        let written : last (at + 1) ≡ map spelling (inner_done shape tree (at + 1) (nodes ++ node ∷ [])) =
        same (at + 1) (omega arith) ∙ put.here ∙ ap (λ (bs : List (List ℕ)). bs ++ spelling parent ∷ []) (first_written shape tree at nodes levels given can.levels_are)
        ∙ sym (map-append spelling (inner_done shape tree (at + 1) nodes) (parent ∷ [])) ∙ ap (map spelling) (sym done) in
        open_join shape tree at (nodes ++ node ∷ []) others last
        (subst (λ (ls : List Link). HoldsAt others at ls) (sym left) (below at [] (omega arith) here))
        written
        (omega (arith, reach))
        (omega (arith, length-append nodes (node ∷ [])))
        (subst (λ (ns : List Node). AreOpen shape tree (at + 1) ns others last) (sym done) above)
