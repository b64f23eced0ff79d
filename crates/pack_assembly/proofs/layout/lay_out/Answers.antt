use Rattle.std.proofs.Common.{ℕ, List, ap, ◌∙◌, get_or}
use Rattle.tree_node.specs.declared.tree.Tree.{Tree}
use Rattle.tree_node.specs.declared.tree.Tree.TheVariants.{Objects}
use Rattle.pack_assembly.specs.declared.fault.AssemblyFault.TheVariants.{Device, TooLong}
use Rattle.pack_assembly.specs.declared.layout.Layout.{Layout}
use Rattle.pack_assembly.specs.declared.row.Row.{Row}
use Rattle.pack_assembly.specs.internal.Order.{kepts_in, nodes_in}
use Rattle.pack_assembly.proofs.CountLemmas.{nodes_few}
use Rattle.pack_assembly.proofs.LayoutLemmas.{long_laid, more_laid}
use Rattle.pack_assembly.proofs.LevelLemmas.{err_again}
use Rattle.pack_assembly.proofs.ReadyLemmas.{row_are}
use Rattle.pack_assembly.proofs.layout.lay_out.Goals as goal

pub returns-in-Err-clause-too_long : goal.returns-in-Err-clause-too_long
returns-in-Err-clause-too_long g c = λ err true p is nodes.
    let d : Row = record { tree = Objects; level = 0 } in
    let r = get_or c.args.rows.now c.loop-row.row-index d in
    let same = ap (λ (f : Tree → ℕ → List (List ℕ)). f r.tree r.level) c.loop-row.invariant.0 ∙ nodes r.tree r.level in
    long_laid (kepts_in p) c.args.first c.args.rows.now c.loop-row.row-index d c.loop-row.placed.items c.loop-row.at c.loop-row-test.true (c.loop-row.invariant.2 true p is nodes)
    (c.in-Err.ensures.too_long (err_again {A = Layout} {B = ℕ} c.in-Err.fault TooLong err) true (nodes_in p r) (row_are p is r) same)

pub loop-row-preserved : goal.loop-row-preserved
loop-row-preserved g c = (
  c.in-Ok.ensures.nodes ∙ c.loop-row.invariant.0,
  c.in-Ok.ensures.short,
  λ true p is nodes.
      let d : Row = record { tree = Objects; level = 0 } in
      let r = get_or c.args.rows.now c.loop-row.row-index d in
      let same = ap (λ (f : Tree → ℕ → List (List ℕ)). f r.tree r.level) c.loop-row.invariant.0 ∙ nodes r.tree r.level in
      let end = c.in-Ok.ensures.end true (nodes_in p r) (row_are p is r) same in
      more_laid (kepts_in p) c.args.first c.args.rows.now c.loop-row.row-index d c.loop-row.placed.items c.push.new.self.items c.loop-row.at c.in-Ok.end c.loop-row-test.true
      (c.loop-row.invariant.2 true p is nodes) c.in_ok-push.ensures.items end.0 end.1,
)

pub returns-in-Err-clause-device : goal.returns-in-Err-clause-device
returns-in-Err-clause-device g c = λ true refuses p is nodes told.
    let d : Row = record { tree = Objects; level = 0 } in
    let r = get_or c.args.rows.now c.loop-row.row-index d in
    let same = ap (λ (f : Tree → ℕ → List (List ℕ)). f r.tree r.level) c.loop-row.invariant.0 ∙ nodes r.tree r.level in
    c.in-Err.ensures.device true refuses (nodes_in p r) same (nodes_few p is r) (err_again {A = Layout} {B = ℕ} c.in-Err.fault Device told)
