-- What a walk gives from the top down: of each level what those of its nodes give that are entered, after what stayed
-- closed above.
use Rattle.std.proofs.Common.{Bool, ◌≡◌, ℕ, suc, ◌<◌, List, [], ◌∷◌, ◌++◌, map, Option, None, Result, Ok, Err, inr, refl, sym, subst, append_assoc, arith}
use Rattle.std.specs.Prelude.{OnOk}
use Rattle.std.proofs.lemmas.List.{append-nil}
use Rattle.tree_node.specs.Nodes.{Binding, Inner, Leaf, Link}
use Rattle.tree_node.specs.Shelves.{Stays}
use Rattle.tree_node.proofs.shared.OutcomeLaws.{uses}
use Rattle.tree_walk.specs.Choices.{AreThose}
use Rattle.tree_walk.specs.Fetches.{IsAmong, IsNodeText}
use Rattle.tree_walk.specs.Given.{FromInner, FromLeaves, GivesFrom, IsEntered, wanted_of}
use Rattle.tree_walk.specs.Ranges.{Range}
use Rattle.tree_walk.specs.Reasons.{IsAccepted, Top}
use Rattle.tree_walk.specs.Spans.{children_placed}
use Rattle.tree_walk.specs.Walks.{IsEntryIn}
use Rattle.tree_walk.specs.internal.Accounts.{Gains}
use Rattle.tree_walk.specs.internal.Gatherings.{GathersFrom, ReadsLevel}
use Rattle.tree_walk.specs.internal.Pendings.{FetchedNode, IsBetweenLevels, IsOfLevel}
use Rattle.tree_walk.proofs.AccountLemmas.{gains_none, gains_then}
use Rattle.tree_walk.proofs.DescentFetches.{FetchingDown, differ_append, down_start, down_step, levels_apart}
use Rattle.tree_walk.proofs.FetchLemmas.{all_weaker, among_first, among_last, fetched_one, fetched_then}
use Rattle.tree_walk.proofs.TopLemmas.{text_of}
use Rattle.tree_walk.proofs.shared.GivenLaws.{accepted_all_more, accepted_as, gives_from_more}

-- what an Ok says, said in another way
pub on_ok : {A F : Type 0} (result : Result A F) (P Q : Type 0) → (P → Q) → OnOk result P → OnOk result Q
on_ok (Ok value) P Q so is = so is
on_ok (Err fault) P Q so is = tt

module _ {G : Type 0} (gathers : G → List (Option (List ℕ) × Link) → List Binding → Type 0) (Closed : Option (List ℕ) × Link → Type 0) (tree : ℕ) (range : Range) where
  -- ---- level by level

  module _ (high : ℕ) (spots : List (Option (List ℕ) × Link)) (first : G) (old : List ℕ → Type 0) (from : ℕ) where
    -- A walk from these wanted children of a level has come down to a lower one, with these pending children: what they
    -- give, after what stayed closed so far, the walk gives.
    pub record GatheringDown (level : ℕ) (held now : List ℕ → Type 0) (to : ℕ) (pending : List (Option (List ℕ) × Link)) (gathered : G) : Type 0 where
      pub so_far : FetchingDown (suc level) (suc high) (uses held old now) from to
      pub closed : List (Option (List ℕ) × Link)
      pub gains : Gains gathers first gathered closed []
      pub gives : (more : List (List ℕ)) (below : List (Option (List ℕ) × Link)) (found : List Binding) → GivesFrom Closed (IsAmong (so_far.done ++ more)) tree range (map (wanted_of level) pending) below found
          → GivesFrom Closed (IsAmong (so_far.done ++ more)) tree range (map (wanted_of high) spots) (closed ++ below) found

    -- at the start
    pub gathering_start : (held : List ℕ → Type 0) → GatheringDown high held old from spots first
    unfolding down_start
    gathering_start held = record { so_far = down_start (suc high) old from held; closed = []; gains = gains_none gathers first; gives = λ more below found is. is }

    -- one more level
    pub gathering_step : {fixed : Bool} (level : ℕ) (held after mid new : List ℕ → Type 0) (via to : ℕ) (pending entered : List (Option (List ℕ) × Link)) (before later : G) → suc level < suc high → GatheringDown (suc level) held mid via pending before → Stays fixed held after
        → ReadsLevel gathers Closed (uses after mid new) via to tree (suc level) range pending entered before later → GatheringDown level after new to entered later
    unfolding down_step
    gathering_step level held after mid new via to pending entered before later lt so stays reads =
        let value : Unit {0} = tt in
        record {
          so_far = down_step (suc high) old from value (suc level) held after mid new via to lt so.so_far stays (reads.nodes, reads.fetched, reads.differ, reads.texts);
          closed = so.closed ++ reads.closed;
          gains = gains_then gathers first before later so.closed reads.closed [] [] so.gains reads.gains;
          gives = λ more below found is.
              let done = so.so_far.done in
              let all = reads.closed ++ below in
              let same : (done ++ reads.nodes) ++ more ≡ done ++ (reads.nodes ++ more) = append_assoc done reads.nodes more in
              let whole = IsAmong ((done ++ reads.nodes) ++ more) in
              let accepted = accepted_all_more (IsAmong reads.nodes) whole tree (suc level) (map (wanted_of (suc level)) pending) reads.read
              (λ x among. among_first (done ++ reads.nodes) more x (among_last done reads.nodes x among)) reads.accepted in
              let here = FromInner level (map (wanted_of (suc level)) pending) reads.read entered reads.closed below found accepted reads.enters reads.closes is in
              let above = so.gives (reads.nodes ++ more) all found (subst (λ (ns : List (List ℕ)). GivesFrom Closed (IsAmong ns) tree range (map (wanted_of (suc level)) pending) all found) same here) in
              subst (λ (ns : List (List ℕ)). GivesFrom Closed (IsAmong ns) tree range (map (wanted_of high) spots) ((so.closed ++ reads.closed) ++ below) found) (sym same)
              (subst (λ (cs : List (Option (List ℕ) × Link)). GivesFrom Closed (IsAmong (done ++ (reads.nodes ++ more))) tree range (map (wanted_of high) spots) cs found) (sym (append_assoc so.closed reads.closed below)) above);
        }

    -- and the leaves
    pub gathering_end : {fixed : Bool} (held after mid new : List ℕ → Type 0) (via to : ℕ) (pending : List (Option (List ℕ) × Link)) (before later : G) → GatheringDown 0 held mid via pending before → Stays fixed held after
        → GathersFrom gathers Closed (IsOfLevel 0) (uses after mid new) via to tree range (map (wanted_of 0) pending) before later
        → GathersFrom gathers Closed (IsBetweenLevels 0 (suc high)) (uses after old new) from to tree range (map (wanted_of high) spots) first later
    unfolding down_step
    gathering_end held after mid new via to pending before later so stays leaves =
        let value : Unit {0} = tt in
        let down = down_step (suc high) old from value 0 held after mid new via to (omega arith) so.so_far stays (leaves.nodes, leaves.fetched, leaves.differ, leaves.texts) in
        record {
          nodes = so.so_far.done ++ leaves.nodes;
          fetched = down.fetched;
          differ = down.differ;
          texts = down.so_far;
          closed = so.closed ++ leaves.closed;
          found = leaves.found;
          gives = so.gives leaves.nodes leaves.closed leaves.found (gives_from_more Closed (IsAmong leaves.nodes) (IsAmong (so.so_far.done ++ leaves.nodes)) tree range (map (wanted_of 0) pending) leaves.closed leaves.found
              (among_last so.so_far.done leaves.nodes) leaves.gives);
          gains = gains_then gathers first before later so.closed leaves.closed [] leaves.found so.gains leaves.gains;
        }

  -- ---- the top

  -- the top is a leaf
  pub gathers_top_leaf : (top : List ℕ) (in_tree : ℕ) (entries found : List Binding) (held old new : List ℕ → Type 0) (from to : ℕ) (before later : G) → FetchedNode (Leaf in_tree entries) (uses held old new) from to
      → IsAccepted new tree (Top top) (Leaf in_tree entries) → AreThose (IsEntryIn range) entries found → Gains gathers before later [] found
      → GathersFrom gathers Closed IsNodeText (uses held old new) from to tree range (Top top ∷ []) before later
  gathers_top_leaf top in_tree entries found held old new from to before later is accepted those gains =
      let node = Leaf in_tree entries in
      record {
        nodes = is.bytes ∷ [];
        fetched = rw is.counted (fetched_one held old new from is.bytes is.is_held is.grown);
        differ = ((λ none. none), tt);
        texts = ((node, is.spells), tt);
        closed = [];
        found = found;
        gives = FromLeaves (Top top ∷ []) ((None, node) ∷ []) found (refl, refl, accepted_as new tree (Top top) node is.bytes [] is.spells accepted, refl)
            (subst (λ (es : List Binding). AreThose (IsEntryIn range) es found) (sym (append-nil entries)) those);
        gains = gains;
      }

  -- the top is an inner node, with what is below it
  pub gathers_top_inner : {fixed : Bool} (top : List ℕ) (in_tree level : ℕ) (links : List Link) (entered closed : List (Option (List ℕ) × Link)) (held after old mid new : List ℕ → Type 0) (from via to : ℕ) (before now later : G)
      → FetchedNode (Inner in_tree (suc level) links) (uses held old mid) from via → IsAccepted mid tree (Top top) (Inner in_tree (suc level) links)
      → AreThose (IsEntered Closed range) (children_placed None links) entered → AreThose Closed (children_placed None links) closed → Gains gathers before now closed [] → Stays fixed held after
      → GathersFrom gathers Closed (IsBetweenLevels 0 (suc level)) (uses after mid new) via to tree range (map (wanted_of level) entered) now later
      → GathersFrom gathers Closed IsNodeText (uses after old new) from to tree range (Top top ∷ []) before later
  gathers_top_inner top in_tree level links entered closed held after old mid new from via to before now later is accepted enters closes gains stays down =
      let node = Inner in_tree (suc level) links in
      record {
        nodes = is.bytes ∷ down.nodes;
        fetched = fetched_then held after old mid new from via to (is.bytes ∷ []) down.nodes stays (rw is.counted (fetched_one held old mid from is.bytes is.is_held is.grown)) down.fetched;
        differ = differ_append (is.bytes ∷ []) down.nodes ((λ none. none), tt) down.differ
            (levels_apart (suc level) (suc (suc level)) level (is.bytes ∷ []) down.nodes (omega arith) ((node, is.spells, omega arith, omega arith), tt) down.texts);
        texts = ((node, is.spells), all_weaker (IsBetweenLevels 0 (suc level)) IsNodeText down.nodes (text_of 0 (suc level)) down.texts);
        closed = closed ++ down.closed;
        found = down.found;
        gives = FromInner level (Top top ∷ []) ((None, node) ∷ []) entered closed down.closed down.found (refl, refl, accepted_as mid tree (Top top) node is.bytes down.nodes is.spells accepted, refl)
            (subst (λ (cs : List (Option (List ℕ) × Link)). AreThose (IsEntered Closed range) cs entered) (sym (append-nil (children_placed None links))) enters)
            (subst (λ (cs : List (Option (List ℕ) × Link)). AreThose Closed cs closed) (sym (append-nil (children_placed None links))) closes)
            (gives_from_more Closed (IsAmong down.nodes) (IsAmong (is.bytes ∷ down.nodes)) tree range (map (wanted_of level) entered) down.closed down.found (λ x among. inr among) down.gives);
        gains = gains_then gathers before now later closed down.closed [] down.found gains down.gains;
      }
