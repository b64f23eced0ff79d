use Rattle.std.proofs.Common.{◌≡◌, ◌∙◌, ◌++◌, arith, drop, take, rules, sym, subst}
use Rattle.std.proofs.lemmas.Grind.{common_steps}
use Rattle.osm_gate.specs.Pieces.{IsCut}
use Rattle.osm_traffic.proofs.PieceLemmas.{given-bytes, given-cut, given-length, given-room, given-some, room-length}
use Rattle.osm_traffic.proofs.pieces.give_piece.Goals as goal

pub slice_bounds-copy_from_slice-end : goal.slice_bounds-copy_from_slice-end
slice_bounds-copy_from_slice-end c = given-room c.args.bytes.now c.args.piece.now c.min-room.result c.cut-count.result c.min-room.ensures c.cut-count.ensures

pub slice_bounds-copy_from_slice-end-2 : goal.slice_bounds-copy_from_slice-end-2
slice_bounds-copy_from_slice-end-2 c = room-length c.args.bytes.now c.args.piece.now c.min-room.result c.cut-count.result c.min-room.ensures c.cut-count.ensures

pub slice_bounds-copy_from_slice-end-3 : goal.slice_bounds-copy_from_slice-end-3
slice_bounds-copy_from_slice-end-3 c = given-length c.args.bytes.now c.args.piece.now c.min-room.result c.cut-count.result c.min-room.ensures c.cut-count.ensures

pub copy_from_slice-requires : goal.copy_from_slice-requires
copy_from_slice-requires c = sym (room-length c.args.bytes.now c.args.piece.now c.min-room.result c.cut-count.result c.min-room.ensures c.cut-count.ensures) ∙ given-length c.args.bytes.now c.args.piece.now c.min-room.result c.cut-count.result c.min-room.ensures c.cut-count.ensures

pub returns-clause-some : goal.returns-clause-some
returns-clause-some c = given-some c.args.bytes.now c.args.piece.now c.min-room.result c.cut-count.result c.min-room.ensures c.cut-count.ensures

pub returns-clause-given : goal.returns-clause-given
returns-clause-given c = given-bytes c.args.bytes.now c.args.piece.now c.min-room.result c.cut-count.result c.min-room.ensures c.cut-count.ensures

pub returns-clause-room : goal.returns-clause-room
returns-clause-room c = given-room c.args.bytes.now c.args.piece.now c.min-room.result c.cut-count.result c.min-room.ensures c.cut-count.ensures

pub returns-clause-cut : goal.returns-clause-cut
returns-clause-cut c =
    let same : take c.cut-count.result (c.copy_from_slice.new.self ++ drop c.cut-count.result c.args.piece.now) ≡ take c.cut-count.result c.args.bytes.now =
    first_of (search rules, grind (arith, common_steps)) in
    subst IsCut (sym same) (given-cut c.args.bytes.now c.args.piece.now c.min-room.result c.cut-count.result c.min-room.ensures c.cut-count.ensures)
