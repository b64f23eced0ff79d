use Rattle.std.proofs.Common.{List, ap, length, sym, subst}
use Rattle.osm_model.specs.declared.reference.Ref.{Ref}
use Rattle.tree_walk.specs.Ranges.{Range}
use Rattle.tree_walk.proofs.shared.WalksGivenLaws.{given_same, given_then}
use Rattle.osm_keys.specs.Ranges.{AreCellRanges}
use Rattle.ql_eval.specs.internal.Boxes.{IsCellsAsk, IsFoundIn, IsInRange}
use Rattle.ql_eval.proofs.BoxLemmas.{box_needs, box_set, cells_size, needs_box}
use Rattle.ql_eval.proofs.LoopLemmas.{gone_all, gone_next, gone_same, gone_stops}
use Rattle.ql_eval.proofs.GivenLemmas.{none_given, sorted_given}
use Rattle.ql_eval.proofs.TruthLemmas.{truly_ended, truly_ends}
use Rattle.ql_eval.proofs.boxes.find_in_box.Goals as goal

pub loop-keys-init : goal.loop-keys-init
loop-keys-init g c = record {
  stays = c.announce_cells.ensures.stays;
  grows = λ x has. (c.announce_cells.ensures.used x).1 has;
  walked = given_same _ _ _ _ _ _ _ c.announce_cells.ensures.used;
  named = none_given _ _ c.new-names.ensures.items;
  answer = λ p is under. rw c.new-names.ensures.items (gone_same p c.deref-keys-items.result.now (IsFoundIn p.objects c.args.area.now) IsCellsAsk c.announce_cells.ensures.used tt);
  read = λ p is under. rw c.new-cells.ensures.items (gone_same p c.deref-keys-items.result.now (IsInRange p.objects) IsCellsAsk c.announce_cells.ensures.used tt);
}

pub returns-in_err-add_range-clause-answer : goal.returns-in_err-add_range-clause-answer
returns-in_err-add_range-clause-answer g c = λ p is under.
    gone_stops p c.deref-keys-items.result.now (IsFoundIn p.objects c.args.area.now) IsCellsAsk c.loop-keys.keys-index c.keys-item.result c.loop-keys-test.true c.keys-item.is
    _ c.from_residual-in_err-add_range.ensures.1 (box_needs p is c.args.area.now c.deref-keys-items.result.now (subst (λ (list : List Range). AreCellRanges c.args.area.now list) (sym c.deref-keys-items.ensures.value) c.in_ok-ranges.ensures)) c.add_range.ensures.grows
    (c.loop-keys.invariant.answer p is under) (λ known. truly_ends known (c.in_err-add_range.ensures.answer p is under))

pub returns-in_err-add_range-clause-read : goal.returns-in_err-add_range-clause-read
returns-in_err-add_range-clause-read g c = λ p is under.
    gone_stops p c.deref-keys-items.result.now (IsInRange p.objects) IsCellsAsk c.loop-keys.keys-index c.keys-item.result c.loop-keys-test.true c.keys-item.is
    _ c.from_residual-in_err-add_range.ensures.1 (box_needs p is c.args.area.now c.deref-keys-items.result.now (subst (λ (list : List Range). AreCellRanges c.args.area.now list) (sym c.deref-keys-items.ensures.value) c.in_ok-ranges.ensures)) c.add_range.ensures.grows
    (c.loop-keys.invariant.read p is under) (λ known. truly_ends known (c.in_err-add_range.ensures.read p is under))

pub loop-keys-preserved : goal.loop-keys-preserved
loop-keys-preserved g c = record {
  stays = λ x. ((λ e has. (c.loop-keys.invariant.stays x).0 e ((c.add_range.ensures.stays x).0 e has)), (λ has. (c.add_range.ensures.stays x).1 ((c.loop-keys.invariant.stays x).1 has)));
  grows = λ x has. c.add_range.ensures.grows x (c.loop-keys.invariant.grows x has);
  walked = given_then _ _ _ _ _ _ _ _ _ _ _ _ _ c.add_range.ensures.stays c.loop-keys.invariant.walked c.in_ok-add_range.ensures.walked;
  named = c.in_ok-add_range.ensures.named;
  answer = λ p is under.
      gone_next p c.deref-keys-items.result.now (IsFoundIn p.objects c.args.area.now) IsCellsAsk c.loop-keys.keys-index c.keys-item.result c.loop-keys-test.true c.keys-item.is
      c.add_range.ensures.grows (c.loop-keys.invariant.answer p is under) (λ known. truly_ends known (c.in_ok-add_range.ensures.answer p is under));
  read = λ p is under.
      gone_next p c.deref-keys-items.result.now (IsInRange p.objects) IsCellsAsk c.loop-keys.keys-index c.keys-item.result c.loop-keys-test.true c.keys-item.is
      c.add_range.ensures.grows (c.loop-keys.invariant.read p is under) (λ known. truly_ends known (c.in_ok-add_range.ensures.read p is under));
}

pub returns-clause-answer : goal.returns-clause-answer
returns-clause-answer g c = λ p is under.
    let ranges = c.deref-keys-items.result.now in
    let are = subst (λ (list : List Range). AreCellRanges c.args.area.now list) (sym c.deref-keys-items.ensures.value) c.in_ok-ranges.ensures in
    truly_ended (gone_all p ranges (IsFoundIn p.objects c.args.area.now) IsCellsAsk c.loop-keys.keys-index c.loop-keys-test.false
    (box_needs p is c.args.area.now ranges are) (needs_box p is c.args.area.now ranges are) (λ so. box_set p is c.args.area.now ranges _ _ are so c.from_refs.ensures)
    (c.loop-keys.invariant.answer p is under))

pub returns-clause-read : goal.returns-clause-read
returns-clause-read g c = λ p is under.
    let ranges = c.deref-keys-items.result.now in
    let are = subst (λ (list : List Range). AreCellRanges c.args.area.now list) (sym c.deref-keys-items.ensures.value) c.in_ok-ranges.ensures in
    truly_ended (gone_all p ranges (IsInRange p.objects) IsCellsAsk c.loop-keys.keys-index c.loop-keys-test.false
    (box_needs p is c.args.area.now ranges are) (needs_box p is c.args.area.now ranges are)
    (λ so. cells_size p is c.args.area.now ranges c.loop-keys.cells.items c.from_refs-cells.result _ are so c.from_refs-cells.ensures (ap (λ (l : List Ref). length l) c.as_slice-read.ensures.value))
    (c.loop-keys.invariant.read p is under))

pub returns-clause-named : goal.returns-clause-named
returns-clause-named g c = sorted_given c.loop-keys.names.items c.from_refs.result c.from_refs.ensures c.loop-keys.invariant.named
