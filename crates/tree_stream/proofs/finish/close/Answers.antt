use Rattle.std.proofs.Common.{◌≡◌, ◌≢◌, ℕ, ◌+◌, ◌<◌, ◌≤◌, List, [], length, refl, sym, ap, ◌∙◌, arith}
use Rattle.tree_build.specs.Shapes.{shape_of}
use Rattle.tree_node.specs.NodeRefs.{link_of, number_of}
use Rattle.tree_node.specs.Nodes.{Link}
use Rattle.tree_stream.specs.declared.level.OpenLevel.{OpenLevel}
use Rattle.tree_stream.specs.internal.Cutting.{inner_done, links_left}
use Rattle.tree_stream.specs.internal.Holding.{HoldsLinks}
use Rattle.tree_stream.proofs.FinishLemmas.{close_add, close_low, close_open, close_there, close_written, last_node, left, left_held, left_short, left_within, none_open, none_written}
use Rattle.tree_stream.proofs.HoldLemmas.{held_at}
use Rattle.tree_stream.proofs.OkLemmas.{on_ok, on_ok_all}
use Rattle.tree_stream.proofs.finish.close.Goals as goal

pub returns-then-len-eq0-clause-closed : goal.returns-then-len-eq0-clause-closed
returns-then-len-eq0-clause-closed g c = λ nodes can.
    let counted = c.len.ensures (links_left (shape_of c.args.shape) nodes) (held_at _ _ _ _ (close_there _ _ _ _ _ _ _ can) c.index.ensures (left_held _ _ _ _ _ _ _ can)) in
    none_open _ _ _ _ _ _ _ can (omega (arith, counted))

pub returns-then-len-eq0-clause-written : goal.returns-then-len-eq0-clause-written
returns-then-len-eq0-clause-written g c = λ nodes can.
    let counted = c.len.ensures (links_left (shape_of c.args.shape) nodes) (held_at _ _ _ _ (close_there _ _ _ _ _ _ _ can) c.index.ensures (left_held _ _ _ _ _ _ _ can)) in
    none_written _ _ _ _ _ _ _ can (omega (arith, counted))

pub write_at-requires-clause-there : goal.write_at-requires-clause-there
write_at-requires-clause-there g c =
    let can = c.requires.1 in
    let low = close_low _ _ _ _ _ _ _ can in
    (close_there _ _ _ _ _ _ _ can, omega (arith, low))

pub write_at-requires-clause-held : goal.write_at-requires-clause-held
write_at-requires-clause-held g c =
    let can = c.requires.1 in
    (left _ _ _ _ _ _ _ can, left_held _ _ _ _ _ _ _ can, left_short _ _ _ _ _ _ _ can, left_within _ _ _ _ _ _ _ can)

pub add-requires : goal.add-requires
add-requires g c =
    let can = c.requires.1 in
    let held = left_held _ _ _ _ _ _ _ can in
    let counted = c.len.ensures (links_left (shape_of c.args.shape) c.requires.0) (held_at _ _ _ _ (close_there _ _ _ _ _ _ _ can) c.index.ensures held) in
    let some : 1 ≤ length (links_left (shape_of c.args.shape) c.requires.0) = omega (arith, counted, c.if-len-eq0.false) in
    let links = left _ _ _ _ _ _ _ can in
    let put = c.in_ok-sum.ensures.put links held in
    let link = link_of (record { greatest = c.args.last; number = c.in_ok-sum.sum.number; digest = c.in_ok-sum.sum.digest }) in (
      inner_done (shape_of c.args.shape) (number_of c.args.tree) (c.args.at + 1) c.requires.0,
      last_node _ _ _ _ _ _ _ can some,
      close_add _ _ _ _ _ _ _ can some c.write_at.new.levels.items (g.W.NodeWriter.given c.write_at.new.writer) put link refl c.in_ok-sum.sum refl refl (c.in_ok-sum.ensures.states links held)
          c.in_ok-sum.ensures.others c.in_ok-sum.ensures.len,
    )

pub returns-clause-closed : goal.returns-clause-closed
returns-clause-closed g c = λ nodes can.
    let held = left_held _ _ _ _ _ _ _ can in
    let counted = c.len.ensures (links_left (shape_of c.args.shape) nodes) (held_at _ _ _ _ (close_there _ _ _ _ _ _ _ can) c.index.ensures held) in
    let some : 1 ≤ length (links_left (shape_of c.args.shape) nodes) = omega (arith, counted, c.if-len-eq0.false) in
    let links = left _ _ _ _ _ _ _ can in
    let put = c.in_ok-sum.ensures.put links held in
    let link = link_of (record { greatest = c.args.last; number = c.in_ok-sum.sum.number; digest = c.in_ok-sum.sum.digest }) in
    on_ok c.add.result (λ so. close_open _ _ _ _ _ _ _ can some c.write_at.new.levels.items (g.W.NodeWriter.given c.write_at.new.writer) put c.add.new.levels.items (g.W.NodeWriter.given c.add.new.writer) so)
    (c.add.ensures.added _ _
    (close_add _ _ _ _ _ _ _ can some c.write_at.new.levels.items (g.W.NodeWriter.given c.write_at.new.writer) put link refl c.in_ok-sum.sum refl refl (c.in_ok-sum.ensures.states links held)
    c.in_ok-sum.ensures.others c.in_ok-sum.ensures.len))

pub returns-clause-written : goal.returns-clause-written
returns-clause-written g c = λ nodes can.
    let held = left_held _ _ _ _ _ _ _ can in
    let counted = c.len.ensures (links_left (shape_of c.args.shape) nodes) (held_at _ _ _ _ (close_there _ _ _ _ _ _ _ can) c.index.ensures held) in
    let some : 1 ≤ length (links_left (shape_of c.args.shape) nodes) = omega (arith, counted, c.if-len-eq0.false) in
    let put = c.in_ok-sum.ensures.put (left _ _ _ _ _ _ _ can) held in
    on_ok c.add.result (λ same. close_written _ _ _ _ _ _ _ can some c.write_at.new.levels.items (g.W.NodeWriter.given c.write_at.new.writer) put (g.W.NodeWriter.given c.add.new.writer) same) c.add.ensures.given

pub returns-clause-below : goal.returns-clause-below
returns-clause-below g c =
    let can = c.requires.1 in
    let put = c.in_ok-sum.ensures.put (left _ _ _ _ _ _ _ can) (left_held _ _ _ _ _ _ _ can) in
    on_ok c.add.result (λ same level le. same level (omega (arith, le)) ∙ put.others level (omega (arith, le))) c.add.ensures.given
