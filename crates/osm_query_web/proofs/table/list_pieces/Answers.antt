-- One piece more, at the end of those so far.
use Rattle.std.proofs.Common.{◌+◌, List, arith, subst, sym}
use Rattle.osm_query_web.specs.declared.piece.Piece.{Piece}
use Rattle.osm_query_web.proofs.TableLemmas.{IsListed, all_listed, next_fits, one_more_listed}
use Rattle.osm_query_web.proofs.table.list_pieces.Goals as goal

pub overflow_add-at : goal.overflow_add-at
overflow_add-at c =
    let split = c.in-Some.ensures in
    let fits = next_fits c.args.table.now c.loop-span.pieces.items c.loop-span.at c.loop-span.left.now c.in-Some.rest.now c.in-Some.span split.0 split.1 split.2 c.loop-span.invariant in
    omega (arith, fits)

pub loop-span-preserved : goal.loop-span-preserved
loop-span-preserved c =
    let split = c.in-Some.ensures in
    subst (λ (pieces : List Piece). IsListed c.args.table.now pieces (c.loop-span.at + c.in-Some.span.len) c.in-Some.rest.now) (sym c.in_ok-push.ensures.items)
    (one_more_listed c.args.table.now c.loop-span.pieces.items c.loop-span.at c.loop-span.left.now c.in-Some.rest.now c.in-Some.span split.0 split.1 split.2 c.loop-span.invariant)

pub returns : goal.returns
returns c =
    all_listed c.args.table.now c.loop-span.pieces.items c.loop-span.at c.loop-span.left.now c.in_default.ensures c.loop-span.invariant
