use Rattle.std.proofs.Common.{◌≡◌, ◌-◌, ◌++◌, ◌+◌, ◌∙◌, ℕ, suc, List, [], ap, append-nil, arith, subst, sym}
use Rattle.node_pack.specs.Reached.{AtRoot, IsReason}
use Rattle.node_pack.specs.declared.gathered.Gathered.{Gathered}
use Rattle.node_pack.specs.declared.role.Wanted.TheVariants.{Root}
use Rattle.node_pack.specs.internal.Gathering.{AllClosed, AllGathered, AreGathered, AreLow, IsSeen}
use Rattle.node_pack.proofs.GatherLemmas.{are_as, both_closed, closed_on, found_later, held_on, level_gathered, none_low, nothing_gathered, nothing_low, stays_on}
use Rattle.node_pack.proofs.WholeLemmas.{whole_of}
use Rattle.node_pack.proofs.WrittenLemmas.{told_is}
use Rattle.node_pack.proofs.gather.gather_levels.Goals as goal

pub loop-depth-init : goal.loop-depth-init
loop-depth-init g c =
    let held = g.S.Shelf.holds c.take.new.shelf in
    let root = c.args.root.now.0 in
    let seen = c.take.new.seen in
    let level = c.take.new.into.items in
    record {
      stays = c.take.ensures.stays;
      are = are_as held root seen ([] ++ level) (c.new-nodes.result.items ++ level) (ap (λ (l : List Gathered). l ++ level) (sym c.new-nodes.ensures.items))
          (c.in_ok-take.ensures.gathered root [] AtRoot (subst (AreGathered (g.S.Shelf.holds c.args.shelf.now) root c.new-seen.result) (sym c.new-level.ensures.items) (nothing_gathered (g.S.Shelf.holds c.args.shelf.now) root c.new-seen.result c.new-seen.ensures.empty)));
      closed = subst (AllClosed held (IsSeen seen)) (sym c.new-nodes.ensures.items) (λ node among. absurd (omega (arith, among.1)));
      low = c.in_ok-take.ensures.low 65 (omega arith) (subst (AreLow 65) (sym c.new-level.ensures.items) (nothing_low 65));
      rooted = c.in_ok-take.ensures.seen;
      found = c.in_ok-take.ensures.found;
    }

pub returns-in_err-take-clause-refused : goal.returns-in_err-take-clause-refused
returns-in_err-take-clause-refused g c =
    told_is c.from_residual.result c.in_err-take.field-0.0 (IsReason (g.S.Shelf.holds c.take.new.shelf) c.args.root.now.0) c.from_residual.ensures.1 (c.in_err-take.ensures.refused c.args.root.now.0 AtRoot)

pub returns-in_err-take_level-clause-refused : goal.returns-in_err-take_level-clause-refused
returns-in_err-take_level-clause-refused g c =
    let before = g.S.Shelf.holds c.loop-depth.shelf in
    let root = c.args.root.now.0 in
    let all = subst (AllGathered before root) (sym c.as_slice.ensures.value) (level_gathered before root c.loop-depth.nodes.items c.loop-depth.level.items c.loop-depth.invariant.are.each) in
    told_is c.from_residual-in_err-take_level.result c.in_err-take_level.field-0.0 (IsReason (g.S.Shelf.holds c.take_level.new.shelf) root) c.from_residual-in_err-take_level.ensures.1 (c.in_err-take_level.ensures.refused root all)

pub loop-depth-preserved : goal.loop-depth-preserved
loop-depth-preserved g c =
    let first = g.S.Shelf.holds c.args.shelf.now in
    let before = g.S.Shelf.holds c.loop-depth.shelf in
    let after = g.S.Shelf.holds c.take_level.new.shelf in
    let root = c.args.root.now.0 in
    let nodes = c.loop-depth.nodes.items in
    let level = c.loop-depth.level.items in
    let next = c.take_level.new.next.items in
    let seen = c.take_level.new.seen in
    let inv = c.loop-depth.invariant in
    let grows = held_on g.S.Shelf.is_fixed before after c.take_level.ensures.stays in
    let slice = c.as_slice.ensures.value in
    let all = subst (AllGathered before root) (sym slice) (level_gathered before root nodes level inv.are.each) in
    let start : (nodes ++ level) ++ c.new-next.result.items ≡ nodes ++ level = ap (λ (l : List Gathered). (nodes ++ level) ++ l) c.new-next.ensures.items ∙ append-nil (nodes ++ level) in
    let joined = c.in_ok-append.ensures.items in
    let down : suc (64 - c.loop-depth.depth) ≡ 65 - c.loop-depth.depth = omega (arith, c.loop-depth-test.true) in
    let low : AreLow (suc (64 - c.loop-depth.depth)) level = subst (λ (h : ℕ). AreLow h level) (sym down) inv.low in
    let further : 64 - c.loop-depth.depth ≡ 65 - (c.loop-depth.depth + 1) = omega arith in
    record {
      stays = stays_on g.S.Shelf.is_fixed first before after inv.stays c.take_level.ensures.stays;
      are = are_as after root seen ((nodes ++ level) ++ next) (c.append.new.self.items ++ next) (ap (λ (l : List Gathered). l ++ next) (sym joined))
          (c.in_ok-take_level.ensures.gathered root (nodes ++ level) all (subst (AreGathered before root c.loop-depth.seen) (sym start) inv.are));
      closed = subst (AllClosed after (IsSeen seen)) (sym joined) (both_closed after (IsSeen seen) nodes level
          (closed_on before after grows (IsSeen c.loop-depth.seen) (IsSeen seen) c.take_level.ensures.grows nodes inv.closed)
          (subst (AllClosed after (IsSeen seen)) slice c.in_ok-take_level.ensures.closed));
      low = subst (λ (h : ℕ). AreLow h next) further (c.in_ok-take_level.ensures.low root (64 - c.loop-depth.depth) all (subst (AreLow (suc (64 - c.loop-depth.depth))) (sym slice) low)
          (subst (AreLow (64 - c.loop-depth.depth)) (sym c.new-next.ensures.items) (nothing_low (64 - c.loop-depth.depth))));
      rooted = c.take_level.ensures.grows root inv.rooted;
      found = found_later before after grows Root root inv.found;
    }

pub returns-clause-whole : goal.returns-clause-whole
returns-clause-whole g c =
    let held = g.S.Shelf.holds c.loop-depth.shelf in
    let root = c.args.root.now.0 in
    let nodes = c.loop-depth.nodes.items in
    let level = c.loop-depth.level.items in
    let inv = c.loop-depth.invariant in
    let none : 65 - c.loop-depth.depth ≡ 0 = omega (arith, c.loop-depth-test.false) in
    let empty : level ≡ [] = none_low level (subst (λ (h : ℕ). AreLow h level) none inv.low) in
    whole_of held root c.loop-depth.seen nodes (are_as held root c.loop-depth.seen (nodes ++ level) nodes (ap (λ (l : List Gathered). nodes ++ l) empty ∙ append-nil nodes) inv.are) inv.closed inv.rooted inv.found
