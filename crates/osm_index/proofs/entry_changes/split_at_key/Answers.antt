use Rattle.std.proofs.Common.{◌≡◌, length, take, arith, subst}
use Rattle.std.proofs.Math.Seq.{take-length}
use Rattle.osm_index.proofs.KeyParts.{AllBelow, equal_order, parts_end, parts_less_at, parts_same}
use Rattle.osm_index.proofs.entry_changes.split_at_key.Goals as goal

pub returns-then-is_below : goal.returns-then-is_below
returns-then-is_below c =
    parts_less_at c.args.key.now c.args.entries.now c.loop-entry.at c.loop-entry.entry-index _ c.loop-entry.invariant.count c.loop-entry-test.true c.loop-entry.invariant.below (c.is_below-then-not-is_below.ensures.0 c.if-is_below.true)

pub returns-then-not-is_below : goal.returns-then-not-is_below
returns-then-not-is_below c =
    let count = c.loop-entry.invariant.count in
    rw (← count) (parts_same c.args.key.now c.args.entries.now c.loop-entry.at _ (omega arith) c.loop-entry.invariant.below
    (rw count (equal_order _ c.args.key.now c.is_below.result c.is_below-then-not-is_below.result c.is_below.ensures c.is_below-then-not-is_below.ensures c.if-not-is_below.true c.if-is_below.false)))

pub returns : goal.returns
returns c =
    let all : c.loop-entry.at ≡ length c.args.entries.now = omega arith in
    let low = subst (λ n. AllBelow c.args.key.now (take n c.args.entries.now)) all c.loop-entry.invariant.below in
    parts_end c.args.key.now c.args.entries.now (rw (take-length c.args.entries.now) at low)
