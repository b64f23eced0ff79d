use Rattle.std.proofs.Common.{◌≡◌, ◌≢◌, ℕ, ◌+◌, ◌-◌, ◌<◌, ◌≤◌, List, length, refl, sym, ap, subst, ◌∙◌, arith}
use Rattle.tree_build.specs.Shapes.{shape_of}
use Rattle.tree_node.specs.NodeRefs.{number_of}
use Rattle.tree_node.specs.Nodes.{Node}
use Rattle.tree_node.specs.Trees.{level_at, levels}
use Rattle.tree_stream.specs.declared.level.OpenLevel.{OpenLevel}
use Rattle.tree_stream.specs.internal.Opening.{AreOpen}
use Rattle.tree_stream.proofs.FinishLemmas.{close_low, finished, here, some_here, whole_close, whole_next, whole_there}
use Rattle.tree_stream.proofs.OkLemmas.{on_ok}
use Rattle.tree_stream.proofs.finish.finish_levels.Goals as goal

pub top_over-requires : goal.top_over-requires
top_over-requires g c =
    let there = whole_there _ _ _ _ _ _ _ (c.loop-digest.invariant c.requires.0 c.requires.1) in
    omega (arith, there, ap (length {A = OpenLevel}) c.as_slice.ensures.value)

pub overflow_cast-result : goal.overflow_cast-result
overflow_cast-result g c = let so = c.loop-digest.invariant c.requires.0 c.requires.1 in omega (arith, so.up)

pub overflow_add-at : goal.overflow_add-at
overflow_add-at g c = let so = c.loop-digest.invariant c.requires.0 c.requires.1 in omega (arith, so.up)

pub returns-in-Some-clause-low : goal.returns-in-Some-clause-low
returns-in-Some-clause-low g c = let so = c.loop-digest.invariant c.requires.0 c.requires.1 in omega (arith, so.up)

pub returns-in-Some-clause-finished : goal.returns-in-Some-clause-finished
returns-in-Some-clause-finished g c = λ entries whole.
    let so = c.loop-digest.invariant entries whole in
    let opened = subst (λ (ls : List OpenLevel). AreOpen (shape_of c.args.shape) (number_of c.args.tree) c.loop-digest.at (here _ _ _ _ _ _ _ so) ls (g.W.NodeWriter.given c.loop-digest.writer)) (sym c.as_slice.ensures.value) so.levels_are in
    let top = c.in-Some.ensures _ _ _ _ opened in
    finished _ _ _ _ _ _ _ so top.0 top.1 _ refl top.2

pub close-requires : goal.close-requires
close-requires g c =
    let so = c.loop-digest.invariant c.requires.0 c.requires.1 in
    let opened = subst (λ (ls : List OpenLevel). AreOpen (shape_of c.args.shape) (number_of c.args.tree) c.loop-digest.at (here _ _ _ _ _ _ _ so) ls (g.W.NodeWriter.given c.loop-digest.writer)) (sym c.as_slice.ensures.value) so.levels_are in
    (here _ _ _ _ _ _ _ so, whole_close _ _ _ _ _ _ _ so (c.in_default.ensures _ _ _ _ opened))

pub loop-digest-smaller : goal.loop-digest-smaller
loop-digest-smaller g c =
    let so = c.loop-digest.invariant c.requires.0 c.requires.1 in
    let opened = subst (λ (ls : List OpenLevel). AreOpen (shape_of c.args.shape) (number_of c.args.tree) c.loop-digest.at (here _ _ _ _ _ _ _ so) ls (g.W.NodeWriter.given c.loop-digest.writer)) (sym c.as_slice.ensures.value) so.levels_are in
    let low = close_low _ _ _ _ _ _ _ (whole_close _ _ _ _ _ _ _ so (c.in_default.ensures _ _ _ _ opened)) in
    omega (arith, low)

pub loop-digest-preserved : goal.loop-digest-preserved
loop-digest-preserved g c = λ entries whole.
    let so = c.loop-digest.invariant entries whole in
    let opened = subst (λ (ls : List OpenLevel). AreOpen (shape_of c.args.shape) (number_of c.args.tree) c.loop-digest.at (here _ _ _ _ _ _ _ so) ls (g.W.NodeWriter.given c.loop-digest.writer)) (sym c.as_slice.ensures.value) so.levels_are in
    let more = c.in_default.ensures _ _ _ _ opened in
    let can = whole_close _ _ _ _ _ _ _ so more in
    whole_next _ _ _ _ _ _ _ so more c.close.new.levels.items (g.W.NodeWriter.given c.close.new.writer) (c.in_ok-close.ensures.closed _ can) (c.in_ok-close.ensures.written _ can) c.in_ok-close.ensures.below
