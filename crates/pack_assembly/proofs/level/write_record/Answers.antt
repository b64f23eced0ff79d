use Rattle.std.proofs.Common.{◌≡◌, ◌++◌, ◌-◌, ℕ, List, Some, drop, length, refl, subst, w32}
use Rattle.std.specs.Int.{to_be_bytes}
use Rattle.std.specs.Io.KnownBytes.{Appends}
use Rattle.std.specs.Prelude.{OnOk}
use Rattle.byte_io.specs.Written.{AppendsFront}
use Rattle.tree_node.specs.Trees.{links_in}
use Rattle.node_pack.specs.Packs.{child_digests, table}
use Rattle.pack_assembly.specs.internal.Placing.{AreParentsOf}
use Rattle.pack_assembly.proofs.WriteLemmas.{one_begun, second_begun, three_begun, three_written}
use Rattle.pack_assembly.proofs.level.write_record.Goals as goal

pub returns-in_err-write_whole-clause-begun : goal.returns-in_err-write_whole-clause-begun
returns-in_err-write_whole-clause-begun g c = λ true place_of own others lower read above.
    subst (λ (l : List ℕ). AppendsFront (g.W.Write.contents c.args.writer.now) (g.W.Write.contents c.write_whole.new.writer) (to_be_bytes w32 (length l) ++ (l ++ table place_of (child_digests own)))) read
    (one_begun (g.W.Write.contents c.args.writer.now) (g.W.Write.contents c.write_whole.new.writer) c.to_be_bytes.result (to_be_bytes w32 (length c.args.node.now))
    (c.args.node.now ++ table place_of (child_digests own)) c.to_be_bytes.ensures c.write_whole.ensures.begun)

pub returns-in_err-write_whole-2-clause-begun : goal.returns-in_err-write_whole-2-clause-begun
returns-in_err-write_whole-2-clause-begun g c = λ true place_of own others lower read above.
    subst (λ (l : List ℕ). AppendsFront (g.W.Write.contents c.args.writer.now) (g.W.Write.contents c.write_whole-2.new.writer) (to_be_bytes w32 (length l) ++ (l ++ table place_of (child_digests own)))) read
    (second_begun (g.W.Write.contents c.args.writer.now) (g.W.Write.contents c.write_whole.new.writer) (g.W.Write.contents c.write_whole-2.new.writer) c.to_be_bytes.result
    (to_be_bytes w32 (length c.args.node.now)) c.args.node.now (table place_of (child_digests own)) c.to_be_bytes.ensures c.in_ok-write_whole.ensures.whole c.write_whole-2.ensures.begun)

pub returns-clause-whole : goal.returns-clause-whole
returns-clause-whole g c = λ true place_of own others lower read above.
    let told : Some c.in-Some.count ≡ Some (length (links_in own)) = c.in-Some.ensures own (above.are.0.0, read) above.are.0.1 in
    let is : c.in-Some.count ≡ length (links_in own) = Prim.cc in
    let tabled = c.write_children.ensures.whole true place_of own others lower above is in
    subst (λ (l : List ℕ). OnOk c.write_children.result (Appends (g.W.Write.contents c.args.writer.now) (g.W.Write.contents c.write_children.new.writer) (to_be_bytes w32 (length l) ++ (l ++ table place_of (child_digests own))))) read
    (three_written (g.W.Write.contents c.args.writer.now) (g.W.Write.contents c.write_whole.new.writer) (g.W.Write.contents c.write_whole-2.new.writer) (g.W.Write.contents c.write_children.new.writer)
    c.to_be_bytes.result (to_be_bytes w32 (length c.args.node.now)) c.args.node.now (table place_of (child_digests own)) (table place_of (child_digests own)) c.to_be_bytes.ensures refl
    c.write_children.result c.in_ok-write_whole.ensures.whole c.in_ok-write_whole-2.ensures.whole tabled)

pub returns-clause-past : goal.returns-clause-past
returns-clause-past g c = λ true place_of own others lower read above.
    let told : Some c.in-Some.count ≡ Some (length (links_in own)) = c.in-Some.ensures own (above.are.0.0, read) above.are.0.1 in
    let is : c.in-Some.count ≡ length (links_in own) = Prim.cc in
    subst (λ (n : ℕ). OnOk c.write_children.result (AreParentsOf place_of (g.L.NodeLevels.unmeasured c.write_children.new.levels c.args.row.tree (c.args.row.level - 1)) c.args.row c.write_children.new.at others (drop n lower))) is
    (c.write_children.ensures.past true place_of own others lower above is)

pub returns-clause-begun : goal.returns-clause-begun
returns-clause-begun g c = λ true place_of own others lower read above.
    let told : Some c.in-Some.count ≡ Some (length (links_in own)) = c.in-Some.ensures own (above.are.0.0, read) above.are.0.1 in
    let is : c.in-Some.count ≡ length (links_in own) = Prim.cc in
    let tabled = c.write_children.ensures.begun true place_of own others lower above is in
    subst (λ (l : List ℕ). AppendsFront (g.W.Write.contents c.args.writer.now) (g.W.Write.contents c.write_children.new.writer) (to_be_bytes w32 (length l) ++ (l ++ table place_of (child_digests own)))) read
    (three_begun (g.W.Write.contents c.args.writer.now) (g.W.Write.contents c.write_whole.new.writer) (g.W.Write.contents c.write_whole-2.new.writer) (g.W.Write.contents c.write_children.new.writer)
    c.to_be_bytes.result (to_be_bytes w32 (length c.args.node.now)) c.args.node.now (table place_of (child_digests own)) (table place_of (child_digests own)) c.to_be_bytes.ensures refl
    c.in_ok-write_whole.ensures.whole c.in_ok-write_whole-2.ensures.whole tabled)

pub returns-clause-device : goal.returns-clause-device
returns-clause-device g c = λ true refuses place_of own others lower read above.
    let told : Some c.in-Some.count ≡ Some (length (links_in own)) = c.in-Some.ensures own (above.are.0.0, read) above.are.0.1 in
    let is : c.in-Some.count ≡ length (links_in own) = Prim.cc in
    c.write_children.ensures.device true refuses place_of own others lower above is
