use Rattle.std.specs.Prelude.{OnOk}
use Rattle.std.proofs.Common.{◌≡◌, ◌++◌, ◌∷◌, [], map, ℕ, suc, ◌-◌, List, None, Option, Result, Err, inl, inr, refl, sym, ap, subst, ◌∙◌, arith, length}
use Rattle.tree_node.specs.NodeRefs.{node_read, number_of}
use Rattle.tree_node.specs.Nodes.{Binding, Inner, Link, Node, spelling}
use Rattle.tree_node.specs.Trees.{levels, node_in}
use Rattle.tree_walk.specs.Fetches.{IsNodeText, cause_of}
use Rattle.tree_node.specs.Outcomes.{Outcome}
use Rattle.tree_walk.specs.internal.Pendings.{AreWanted, FetchedNode, IsBetweenLevels, spots_of}
use Rattle.tree_walk.specs.Given.{wanted_of}
use Rattle.tree_walk.specs.internal.Accounts.{Account, AreBelowLevel, Gains, GathersAll}
use Rattle.tree_walk.specs.internal.Openings.{IsClosedChild, IsOpenChild, IsOpened}
use Rattle.tree_walk.specs.internal.Gatherings.{GathersFrom}
use Rattle.tree_walk.proofs.GivenDown.{gathers_top_inner, gathers_top_leaf, on_ok}
use Rattle.tree_walk.specs.Ranges.{range_of}
use Rattle.tree_walk.specs.declared.fault.WalkFault.{WalkFault}
use Rattle.tree_walk.specs.declared.pending.Pending.{Pending}
use Rattle.tree_walk.specs.declared.fault.WalkFault.TheVariants.{Memory}
use Rattle.tree_walk.proofs.LevelLemmas.{top_is}
use Rattle.tree_node.proofs.shared.OutcomeLaws.{clash_more, uses}
use Rattle.tree_node.proofs.shared.Results.{err_is}
use Rattle.tree_walk.proofs.ReasonLemmas.{all_those, children_wanted, refused_for, refused_memory, refused_missing}
use Rattle.tree_walk.specs.Reasons.{FromTop, IsAccepted, IsWanted, Top}
use Rattle.tree_walk.specs.Spans.{children_placed}
use Rattle.tree_walk.specs.Uses.{nodes_around}
use Rattle.tree_walk.proofs.SpotOrder.{order_of_top}
use Rattle.tree_walk.proofs.TopLemmas.{gathers_inner, gathers_leaf, honest_inner, honest_leaf, honest_refused, honest_then, is_tree, of_top, top_fetched, top_refused, top_then_down, top_then_refused}
use Rattle.tree_walk.proofs.descent.gather.Goals as goal

pub returns-in_err-entries-clause-fetches : goal.returns-in_err-entries-clause-fetches
returns-in_err-entries-clause-fetches g c =
    rw (sym c.count_call.ensures.fetches) (top_refused c.from_residual.result c.in_err-entries.field-0.0 (g.S.Shelf.holds c.open.new.shelf) (g.S.Shelf.used c.args.shelf.now) (g.S.Shelf.used c.open.new.shelf) c.count_call.new.self.fetches c.open.new.tally.fetches
    (err_is c.from_residual.result c.in_err-entries.field-0.0 c.from_residual.ensures.1) c.in_err-entries.ensures.opens)

pub returns-in_err-entries-clause-answer : goal.returns-in_err-entries-clause-answer
returns-in_err-entries-clause-answer g c = λ shape entries is.
    let tree_is = is_tree c.args.tree in
    let top = top_is shape (number_of c.args.tree) entries tree_is is.has in
    subst (λ (r : Result (Unit {0}) WalkFault). Outcome cause_of (λ (_ : Unit {0}). GathersAll g.G.Gather.gathers g.G.Gather.closing (range_of c.args.range.now) entries c.args.gathered.now c.args.gathered.now) (IsOpened g.G.Gather.closing (range_of c.args.range.now) (levels shape (number_of c.args.tree) entries))
    (nodes_around g.S.Shelf.holds g.S.Shelf.used c.args.shelf.now c.open.new.shelf) r)
    (sym (err_is c.from_residual.result c.in_err-entries.field-0.0 c.from_residual.ensures.1))
    (record {
      ends = honest_refused g.G.Gather.closing shape (number_of c.args.tree) entries (range_of c.args.range.now) (cause_of c.in_err-entries.field-0.0) (g.S.Shelf.holds c.open.new.shelf) (g.S.Shelf.used c.open.new.shelf)
          ((c.in_err-entries.ensures.answer (node_in (levels shape (number_of c.args.tree) entries) (length (levels shape (number_of c.args.tree) entries) - 1) 0) top.0 top.1 is.is_top).ends);
    })

pub returns-in_err-take-in-Leaf-clause-fetches : goal.returns-in_err-take-in-Leaf-clause-fetches
returns-in_err-take-in-Leaf-clause-fetches g c =
    rw (sym c.count_call.ensures.fetches) (top_then_refused c.from_residual-in_err-take-in-Leaf.result Memory (node_read c.in_ok-entries.field-0) (g.S.Shelf.holds c.open.new.shelf) (g.S.Shelf.used c.args.shelf.now) (g.S.Shelf.used c.open.new.shelf)
    c.count_call.new.self.fetches c.open.new.tally.fetches (err_is c.from_residual-in_err-take-in-Leaf.result Memory c.from_residual-in_err-take-in-Leaf.ensures.1) c.in_ok-entries.ensures.opens)

pub returns-in_err-pick-in-Inner-clause-fetches : goal.returns-in_err-pick-in-Inner-clause-fetches
returns-in_err-pick-in-Inner-clause-fetches g c =
    rw (sym c.count_call.ensures.fetches) (top_then_refused c.from_residual-in_err-pick-in-Inner.result Memory (node_read c.in_ok-entries.field-0) (g.S.Shelf.holds c.open.new.shelf) (g.S.Shelf.used c.args.shelf.now) (g.S.Shelf.used c.open.new.shelf)
    c.count_call.new.self.fetches c.open.new.tally.fetches (err_is c.from_residual-in_err-pick-in-Inner.result Memory c.from_residual-in_err-pick-in-Inner.ensures.1) c.in_ok-entries.ensures.opens)

pub take-requires : goal.take-requires
take-requires g c κs =
    let top = subst (λ (n : Node). FetchedNode n (nodes_around g.S.Shelf.holds g.S.Shelf.used c.args.shelf.now c.open.new.shelf) c.count_call.new.self.fetches c.open.new.tally.fetches) (ap node_read c.in-Leaf.is) c.in_ok-entries.ensures.opens in
    ((refl, tt), top.spells.0.3)

pub descend-requires : goal.descend-requires
descend-requires g c κs =
    let picked = c.in_ok-pick-in-Inner.ensures in
    let are : spots_of c.pick.new.pending.items ≡ picked.0 = picked.2 ∙ ap (λ (ps : List Pending). spots_of ps ++ picked.0) c.new-pending.ensures.items in
    let top = subst (λ (n : Node). FetchedNode n (nodes_around g.S.Shelf.holds g.S.Shelf.used c.args.shelf.now c.open.new.shelf) c.count_call.new.self.fetches c.open.new.tally.fetches) (ap node_read c.in-Inner.is) c.in_ok-entries.ensures.opens in
    ((refl, tt), (c.requires, rw are (order_of_top (IsOpenChild g.G.Gather.closing (range_of c.args.range.now)) c.in-Inner.children picked.0 top.spells.0.6 picked.3)))

pub returns-in_ok-take-in-Leaf-clause-fetches : goal.returns-in_ok-take-in-Leaf-clause-fetches
returns-in_ok-take-in-Leaf-clause-fetches g c =
    rw (sym c.count_call.ensures.fetches) (top_fetched (node_read c.in_ok-entries.field-0) (g.S.Shelf.holds c.open.new.shelf) (g.S.Shelf.used c.args.shelf.now) (g.S.Shelf.used c.open.new.shelf)
    c.count_call.new.self.fetches c.open.new.tally.fetches c.in_ok-entries.ensures.opens)

pub returns-in_ok-take-in-Leaf-clause-answer : goal.returns-in_ok-take-in-Leaf-clause-answer
returns-in_ok-take-in-Leaf-clause-answer g c = λ shape entries is.
    let tree_is = is_tree c.args.tree in
    let top = top_is shape (number_of c.args.tree) entries tree_is is.has in
    let node = node_in (levels shape (number_of c.args.tree) entries) (length (levels shape (number_of c.args.tree) entries) - 1) 0 in
    let taken = c.in_ok-take-in-Leaf.ensures in
    record {
      ends = elim ((c.in_ok-entries.ensures.answer node top.0 top.1 is.is_top).ends) [
        | inl clash ↦ inl (clash_more (λ bytes. bytes ≡ spelling node) (IsOpened g.G.Gather.closing (range_of c.args.range.now) (levels shape (number_of c.args.tree) entries)) (g.S.Shelf.used c.open.new.shelf) (g.S.Shelf.used c.open.new.shelf)
            (of_top g.G.Gather.closing shape (number_of c.args.tree) entries (range_of c.args.range.now)) (λ x was. was) clash)
        | inr found ↦
            let whole = honest_leaf g.G.Gather.closing shape (number_of c.args.tree) entries (range_of c.args.range.now) (number_of c.in-Leaf.tree) c.in-Leaf.entries taken.0 (g.S.Shelf.used c.args.shelf.now) (g.S.Shelf.used c.open.new.shelf) tree_is is.has
            (sym (ap node_read c.in-Leaf.is) ∙ found.0) found.1 taken.1 in
            inr (gathers_leaf g.G.Gather.gathers g.G.Gather.closing (range_of c.args.range.now) entries c.args.gathered.now c.take.new.gathered taken.0 taken.2 whole.0, whole.1)
      ];
    }

pub returns-in_ok-pick-in-Inner-clause-fetches : goal.returns-in_ok-pick-in-Inner-clause-fetches
returns-in_ok-pick-in-Inner-clause-fetches g c =
    let top = subst (λ (n : Node). FetchedNode n (nodes_around g.S.Shelf.holds g.S.Shelf.used c.args.shelf.now c.open.new.shelf) c.count_call.new.self.fetches c.open.new.tally.fetches) (ap node_read c.in-Inner.is) c.in_ok-entries.ensures.opens in
    let level : suc (c.in-Inner.level - 1) ≡ c.in-Inner.level = omega (arith, top.spells.0.1) in
    rw (sym c.count_call.ensures.fetches) (top_then_down c.descend.result (number_of c.in-Inner.tree) (c.in-Inner.level - 1) c.in-Inner.children (g.S.Shelf.holds c.open.new.shelf) (g.S.Shelf.holds c.descend.new.shelf)
    (g.S.Shelf.used c.args.shelf.now) (g.S.Shelf.used c.open.new.shelf) (g.S.Shelf.used c.descend.new.shelf) c.count_call.new.self.fetches c.open.new.tally.fetches c.descend.new.tally.fetches
    (rw level top) c.descend.ensures.stays c.descend.ensures.fetches)

pub returns-in_ok-pick-in-Inner-clause-answer : goal.returns-in_ok-pick-in-Inner-clause-answer
returns-in_ok-pick-in-Inner-clause-answer g c = λ shape entries is.
    let range = range_of c.args.range.now in
    let tree_is = is_tree c.args.tree in
    let top_at = top_is shape (number_of c.args.tree) entries tree_is is.has in
    let node = node_in (levels shape (number_of c.args.tree) entries) (length (levels shape (number_of c.args.tree) entries) - 1) 0 in
    let picked = c.in_ok-pick-in-Inner.ensures in
    let are : spots_of c.pick.new.pending.items ≡ picked.0 = picked.2 ∙ ap (λ (ps : List Pending). spots_of ps ++ picked.0) c.new-pending.ensures.items in
    let top = subst (λ (n : Node). FetchedNode n (nodes_around g.S.Shelf.holds g.S.Shelf.used c.args.shelf.now c.open.new.shelf) c.count_call.new.self.fetches c.open.new.tally.fetches) (ap node_read c.in-Inner.is) c.in_ok-entries.ensures.opens in
    let level : suc (c.in-Inner.level - 1) ≡ c.in-Inner.level = omega (arith, top.spells.0.1) in
    record {
      ends = elim ((c.in_ok-entries.ensures.answer node top_at.0 top_at.1 is.is_top).ends) [
        | inl clash ↦ inl (clash_more (λ bytes. bytes ≡ spelling node) (IsOpened g.G.Gather.closing range (levels shape (number_of c.args.tree) entries)) (g.S.Shelf.used c.open.new.shelf) (g.S.Shelf.used c.descend.new.shelf)
            (of_top g.G.Gather.closing shape (number_of c.args.tree) entries range) c.descend.ensures.grows clash)
        | inr found ↦
            let below = honest_inner g.G.Gather.closing shape (number_of c.args.tree) entries range (number_of c.in-Inner.tree) (c.in-Inner.level - 1) c.in-Inner.children picked.0 picked.1 tree_is is.has is.bytes (rw level (sym (ap node_read c.in-Inner.is) ∙ found.0)) picked.3 picked.4 in
            (honest_then g.G.Gather.closing shape (number_of c.args.tree) entries range cause_of
            (λ (_ : Unit {0}). (closed : List (Option (List ℕ) × Link)) × (found all : List Binding) × Gains g.G.Gather.gathers c.pick.new.gathered c.descend.new.gathered closed found × Account g.G.Gather.closing closed found all
            × AreBelowLevel g.G.Gather.closing range (levels shape (number_of c.args.tree) entries) (c.in-Inner.level - 1) all)
            (λ (_ : Unit {0}). GathersAll g.G.Gather.gathers g.G.Gather.closing range entries c.args.gathered.now c.descend.new.gathered) c.descend.result (c.in-Inner.level - 1)
            (g.S.Shelf.holds c.descend.new.shelf) (g.S.Shelf.used c.args.shelf.now) (g.S.Shelf.used c.open.new.shelf) (g.S.Shelf.used c.descend.new.shelf) below.0
            (λ _ gathered. gathers_inner g.G.Gather.gathers g.G.Gather.closing range entries shape (number_of c.args.tree) (c.in-Inner.level - 1) c.args.gathered.now c.pick.new.gathered c.descend.new.gathered picked.1
            is.has is.bytes below.1.within below.2 picked.5 gathered)
            found.1 (c.descend.ensures.answer shape entries (rw are below.1))).ends
      ];
    }

pub returns-in_err-entries-clause-told : goal.returns-in_err-entries-clause-told
returns-in_err-entries-clause-told g c =
    refused_for (number_of c.args.tree) c.args.top.now.0 _ _ (Top c.args.top.now.0) c.in_err-entries.field-0.0 c.from_residual.result (err_is c.from_residual.result c.in_err-entries.field-0.0 c.from_residual.ensures.1) FromTop c.in_err-entries.ensures.told

pub returns-in_err-entries-clause-none : goal.returns-in_err-entries-clause-none
returns-in_err-entries-clause-none g c = λ fixed none.
    refused_missing c.in_err-entries.field-0.0 (Err c.in_err-entries.field-0.0) c.from_residual.result refl (c.in_err-entries.ensures.none fixed none) (err_is c.from_residual.result c.in_err-entries.field-0.0 c.from_residual.ensures.1)

pub returns-in_err-take-in-Leaf-clause-told : goal.returns-in_err-take-in-Leaf-clause-told
returns-in_err-take-in-Leaf-clause-told g c =
    refused_memory _ _ _ _ c.from_residual-in_err-take-in-Leaf.result (err_is c.from_residual-in_err-take-in-Leaf.result Memory c.from_residual-in_err-take-in-Leaf.ensures.1)

pub returns-in_err-take-in-Leaf-clause-none : goal.returns-in_err-take-in-Leaf-clause-none
returns-in_err-take-in-Leaf-clause-none g c = λ fixed none. absurd (let no = c.in_ok-entries.ensures.none fixed none in cc)

pub returns-in_err-pick-in-Inner-clause-told : goal.returns-in_err-pick-in-Inner-clause-told
returns-in_err-pick-in-Inner-clause-told g c =
    refused_memory _ _ _ _ c.from_residual-in_err-pick-in-Inner.result (err_is c.from_residual-in_err-pick-in-Inner.result Memory c.from_residual-in_err-pick-in-Inner.ensures.1)

pub returns-in_err-pick-in-Inner-clause-none : goal.returns-in_err-pick-in-Inner-clause-none
returns-in_err-pick-in-Inner-clause-none g c = λ fixed none. absurd (let no = c.in_ok-entries.ensures.none fixed none in cc)

pub returns-in_ok-take-in-Leaf-clause-none : goal.returns-in_ok-take-in-Leaf-clause-none
returns-in_ok-take-in-Leaf-clause-none g c = λ fixed none. absurd (let no = c.in_ok-entries.ensures.none fixed none in cc)

pub returns-in_ok-pick-in-Inner-clause-none : goal.returns-in_ok-pick-in-Inner-clause-none
returns-in_ok-pick-in-Inner-clause-none g c = λ fixed none. absurd (let no = c.in_ok-entries.ensures.none fixed (λ x is. none x ((c.descend.ensures.stays x).1 is)) in cc)

pub returns-in_ok-pick-in-Inner-clause-told : goal.returns-in_ok-pick-in-Inner-clause-told
returns-in_ok-pick-in-Inner-clause-told g c =
    let tree = number_of c.args.tree in
    let used = g.S.Shelf.used c.open.new.shelf in
    let picked = c.in_ok-pick-in-Inner.ensures in
    let are : spots_of c.pick.new.pending.items ≡ picked.0 = picked.2 ∙ ap (λ (ps : List Pending). spots_of ps ++ picked.0) c.new-pending.ensures.items in
    let top = subst (λ (n : Node). FetchedNode n (nodes_around g.S.Shelf.holds g.S.Shelf.used c.args.shelf.now c.open.new.shelf) c.count_call.new.self.fetches c.open.new.tally.fetches) (ap node_read c.in-Inner.is) c.in_ok-entries.ensures.opens in
    let level : suc (c.in-Inner.level - 1) ≡ c.in-Inner.level = omega (arith, top.spells.0.1) in
    let accepted = subst (λ (n : Node). IsAccepted used tree (Top c.args.top.now.0) n) (ap node_read c.in-Inner.is ∙ ap (λ (l : ℕ). Inner (number_of c.in-Inner.tree) l c.in-Inner.children) (sym level)) c.in_ok-entries.ensures.accepted in
    let children = children_wanted used tree c.args.top.now.0 (Top c.args.top.now.0) (number_of c.in-Inner.tree) (c.in-Inner.level - 1) c.in-Inner.children FromTop accepted in
    let those = all_those (IsOpenChild g.G.Gather.closing (range_of c.args.range.now)) (λ (spot : Option (List ℕ) × Link). IsWanted used tree c.args.top.now.0 (wanted_of (c.in-Inner.level - 1) spot)) (children_placed None c.in-Inner.children) picked.0 children picked.3 in
    c.descend.ensures.told c.args.top.now.0 (subst (λ (spots : List (Option (List ℕ) × Link)). AreWanted used tree c.args.top.now.0 (c.in-Inner.level - 1) spots) (sym are) those)

pub returns-in_ok-take-in-Leaf-clause-gives : goal.returns-in_ok-take-in-Leaf-clause-gives
returns-in_ok-take-in-Leaf-clause-gives g c =
    let range = range_of c.args.range.now in
    let used = g.S.Shelf.used c.open.new.shelf in
    let taken = c.in_ok-take-in-Leaf.ensures in
    let top = subst (λ (n : Node). FetchedNode n (uses (g.S.Shelf.holds c.open.new.shelf) (g.S.Shelf.used c.args.shelf.now) used) c.count_call.new.self.fetches c.open.new.tally.fetches) (ap node_read c.in-Leaf.is) c.in_ok-entries.ensures.opens in
    let accepted = subst (λ (n : Node). IsAccepted used (number_of c.args.tree) (Top c.args.top.now.0) n) (ap node_read c.in-Leaf.is) c.in_ok-entries.ensures.accepted in
    rw (sym c.count_call.ensures.fetches) (gathers_top_leaf g.G.Gather.gathers (IsClosedChild g.G.Gather.closing range) (number_of c.args.tree) range c.args.top.now.0 (number_of c.in-Leaf.tree) c.in-Leaf.entries taken.0
    (g.S.Shelf.holds c.open.new.shelf) (g.S.Shelf.used c.args.shelf.now) used c.count_call.new.self.fetches c.open.new.tally.fetches c.args.gathered.now c.take.new.gathered top accepted taken.1 taken.2)

pub returns-in_ok-pick-in-Inner-clause-gives : goal.returns-in_ok-pick-in-Inner-clause-gives
returns-in_ok-pick-in-Inner-clause-gives g c =
    let gathers = g.G.Gather.gathers in
    let range = range_of c.args.range.now in
    let closes = IsClosedChild g.G.Gather.closing range in
    let tree = number_of c.args.tree in
    let low = c.in-Inner.level - 1 in
    let held = g.S.Shelf.holds c.open.new.shelf in
    let after = g.S.Shelf.holds c.descend.new.shelf in
    let old = g.S.Shelf.used c.args.shelf.now in
    let mid = g.S.Shelf.used c.open.new.shelf in
    let new = g.S.Shelf.used c.descend.new.shelf in
    let picked = c.in_ok-pick-in-Inner.ensures in
    let are : spots_of c.pick.new.pending.items ≡ picked.0 = picked.2 ∙ ap (λ (ps : List Pending). spots_of ps ++ picked.0) c.new-pending.ensures.items in
    let is_top = subst (λ (n : Node). FetchedNode n (uses held old mid) c.count_call.new.self.fetches c.open.new.tally.fetches) (ap node_read c.in-Inner.is) c.in_ok-entries.ensures.opens in
    let level : suc low ≡ c.in-Inner.level = omega (arith, is_top.spells.0.1) in
    let top = subst (λ (l : ℕ). FetchedNode (Inner (number_of c.in-Inner.tree) l c.in-Inner.children) (uses held old mid) c.count_call.new.self.fetches c.open.new.tally.fetches) (sym level) is_top in
    let accepted = subst (λ (n : Node). IsAccepted mid tree (Top c.args.top.now.0) n) (ap node_read c.in-Inner.is ∙ ap (λ (l : ℕ). Inner (number_of c.in-Inner.tree) l c.in-Inner.children) (sym level)) c.in_ok-entries.ensures.accepted in
    let from_top = λ (spots : List (Option (List ℕ) × Link)). GathersFrom gathers closes (IsBetweenLevels 0 (suc low)) (uses after mid new) c.open.new.tally.fetches c.descend.new.tally.fetches tree range (map (wanted_of low) spots) c.pick.new.gathered c.descend.new.gathered in
    rw (sym c.count_call.ensures.fetches) (on_ok c.descend.result (from_top picked.0)
    (GathersFrom gathers closes IsNodeText (uses after old new) c.count_call.new.self.fetches c.descend.new.tally.fetches tree range (Top c.args.top.now.0 ∷ []) c.args.gathered.now c.descend.new.gathered)
    (λ down. gathers_top_inner gathers closes tree range c.args.top.now.0 (number_of c.in-Inner.tree) low c.in-Inner.children picked.0 picked.1 held after old mid new c.count_call.new.self.fetches c.open.new.tally.fetches c.descend.new.tally.fetches
    c.args.gathered.now c.pick.new.gathered c.descend.new.gathered top accepted picked.6 picked.4 picked.5 c.descend.ensures.stays down)
    (subst (λ (spots : List (Option (List ℕ) × Link)). OnOk c.descend.result (from_top spots)) are c.descend.ensures.gives))
