use Rattle.std.proofs.Common.{◌≡◌, ◌<◌, ◌+◌, ◌*◌, ◌^◌, ◌∷◌, ℕ, List, Option, Some, Err, arith, ap, subst, sym, ◌∙◌}
use Rattle.std.specs.Io.KnownBytes.{Appends}
use Rattle.byte_io.specs.Written.{AppendsFront}
use Rattle.tree_node.specs.Nodes.{Node}
use Rattle.tree_node.specs.declared.tree.Tree.{Tree}
use Rattle.tree_stream.specs.ReadBack.{HasLen}
use Rattle.tree_stream.specs.declared.levels_read.NodeLen.{NodeLen}
use Rattle.node_pack.specs.Packs.{record_len}
use Rattle.node_pack.specs.declared.place.Place.{Place}
use Rattle.pack_assembly.specs.internal.Order.{kept_of}
use Rattle.pack_assembly.specs.internal.Placing.{IsAmong}
use Rattle.pack_assembly.proofs.FaultLemmas.{read_unwritten, residual}
use Rattle.pack_assembly.proofs.LevelLemmas.{measured, none_measured}
use Rattle.pack_assembly.proofs.TableLemmas.{front_none, next_place}
use Rattle.pack_assembly.proofs.table.write_next_place.Goals as goal

next_short : (place_of : List ℕ → Option Place) (old new : Tree → ℕ → List (List ℕ)) (tree : Tree) (level at : ℕ) (node : Node) (others : List Node) (len : NodeLen)
    → IsAmong place_of (old tree level) at (node ∷ others) → HasLen old new tree level (Some len) → 4 + (len.bytes + 12 * len.children) < 2 ^ 32
next_short place_of old new tree level at node others len among has =
    let m = measured old new tree level len (node ∷ others) among.are has among.left in
    let same : m.node ≡ node = sym (let e : node ∷ others ≡ m.node ∷ m.others = m.are in Prim.cc) in
    omega (arith, m.len_is ∙ ap (λ (n : Node). record_len (kept_of n)) same, among.placed.1)

pub returns-in_err-node-clause-begun : goal.returns-in_err-node-clause-begun
returns-in_err-node-clause-begun g c = λ true place_of node others among. front_none (g.W.Write.contents c.args.writer.now) _

pub returns-in_default-clause-begun : goal.returns-in_default-clause-begun
returns-in_default-clause-begun g c = λ true place_of node others among. front_none (g.W.Write.contents c.args.writer.now) _

pub returns-in_default-record_len-clause-begun : goal.returns-in_default-record_len-clause-begun
returns-in_default-record_len-clause-begun g c = λ true place_of node others among. front_none (g.W.Write.contents c.args.writer.now) _

pub returns-in_err-write_place-clause-begun : goal.returns-in_err-write_place-clause-begun
returns-in_err-write_place-clause-begun g c = λ true place_of node others among.
    let old = g.L.NodeLevels.unmeasured c.args.levels.now in
    let new = g.L.NodeLevels.unmeasured c.next_len.new.self in
    let has = subst (HasLen old new c.args.row.tree c.args.row.level) c.in-Some.is (c.in_ok-node.ensures.measured true) in
    let place = next_place place_of old new c.args.row.tree c.args.row.level c.args.at.now node others c.in-Some.node c.in-Some-record_len.len among has c.in-Some-record_len.ensures.0 in
    subst (AppendsFront (g.W.Write.contents c.args.writer.now) (g.W.Write.contents c.write_place.new.writer)) (sym place.bytes) c.write_place.ensures.begun

pub returns-clause-whole : goal.returns-clause-whole
returns-clause-whole g c = λ true place_of node others among.
    let old = g.L.NodeLevels.unmeasured c.args.levels.now in
    let new = g.L.NodeLevels.unmeasured c.next_len.new.self in
    let has = subst (HasLen old new c.args.row.tree c.args.row.level) c.in-Some.is (c.in_ok-node.ensures.measured true) in
    let place = next_place place_of old new c.args.row.tree c.args.row.level c.args.at.now node others c.in-Some.node c.in-Some-record_len.len among has c.in-Some-record_len.ensures.0 in
    subst (Appends (g.W.Write.contents c.args.writer.now) (g.W.Write.contents c.write_place.new.writer)) (sym place.bytes) c.in_ok-write_place.ensures.whole

pub returns-clause-past : goal.returns-clause-past
returns-clause-past g c = λ true place_of node others among.
    let old = g.L.NodeLevels.unmeasured c.args.levels.now in
    let new = g.L.NodeLevels.unmeasured c.next_len.new.self in
    let has = subst (HasLen old new c.args.row.tree c.args.row.level) c.in-Some.is (c.in_ok-node.ensures.measured true) in
    let place = next_place place_of old new c.args.row.tree c.args.row.level c.args.at.now node others c.in-Some.node c.in-Some-record_len.len among has c.in-Some-record_len.ensures.0 in
    let end : c.saturating_add.result ≡ c.args.at.now + c.in-Some-record_len.len = omega (arith, place.near) in
    subst (λ (n : ℕ). IsAmong place_of (new c.args.row.tree c.args.row.level) n others) (sym end) place.after

pub returns-clause-begun : goal.returns-clause-begun
returns-clause-begun g c = λ true place_of node others among.
    let old = g.L.NodeLevels.unmeasured c.args.levels.now in
    let new = g.L.NodeLevels.unmeasured c.next_len.new.self in
    let has = subst (HasLen old new c.args.row.tree c.args.row.level) c.in-Some.is (c.in_ok-node.ensures.measured true) in
    let place = next_place place_of old new c.args.row.tree c.args.row.level c.args.at.now node others c.in-Some.node c.in-Some-record_len.len among has c.in-Some-record_len.ensures.0 in
    subst (AppendsFront (g.W.Write.contents c.args.writer.now) (g.W.Write.contents c.write_place.new.writer)) (sym place.bytes) c.in_ok-write_place.ensures.begun

pub returns-in_err-node-clause-device : goal.returns-in_err-node-clause-device
returns-in_err-node-clause-device g c = λ true refuses place_of node others among told.
    c.in_err-node.ensures.given true refuses (ap Err (read_unwritten c.in_err-node.field-0.0 (residual c.from_residual.result _ _ c.from_residual.ensures.1 told)))

pub returns-in_default-clause-device : goal.returns-in_default-clause-device
returns-in_default-clause-device g c = λ true refuses place_of node others among told.
    let old = g.L.NodeLevels.unmeasured c.args.levels.now in
    let new = g.L.NodeLevels.unmeasured c.next_len.new.self in
    let has = subst (HasLen old new c.args.row.tree c.args.row.level) c.in_default.is (c.in_ok-node.ensures.measured true) in
    let none = none_measured old new c.args.row.tree c.args.row.level (node ∷ others) has among.left in
    Prim.cc

pub returns-in_default-record_len-clause-device : goal.returns-in_default-record_len-clause-device
returns-in_default-record_len-clause-device g c = λ true refuses place_of node others among told.
    let old = g.L.NodeLevels.unmeasured c.args.levels.now in
    let new = g.L.NodeLevels.unmeasured c.next_len.new.self in
    let has = subst (HasLen old new c.args.row.tree c.args.row.level) c.in-Some.is (c.in_ok-node.ensures.measured true) in
    omega (arith, next_short place_of old new c.args.row.tree c.args.row.level c.args.at.now node others c.in-Some.node among has, c.in_default-record_len.ensures)
