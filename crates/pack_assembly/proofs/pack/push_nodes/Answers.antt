use Rattle.std.proofs.Common.{rules, ◌∷◌, [], List, sym, subst, ◌∙◌, get_or}
use Rattle.std.specs.List.{Contains, flat_map}
use Rattle.std.proofs.lemmas.List.{take_all}
use Rattle.std.proofs.lemmas.List.Elements.{Contains-get_or}
use Rattle.external_sort.specs.Sorting.{Holds}
use Rattle.tree_node.specs.declared.tree.Tree.TheVariants.{Objects}
use Rattle.pack_assembly.specs.Levels.{AreLevelsOf}
use Rattle.pack_assembly.specs.declared.row.Row.{Row}
use Rattle.pack_assembly.specs.internal.Keys.{key_entries, key_entry}
use Rattle.pack_assembly.specs.internal.Order.{digests_of, nodes_in}
use Rattle.pack_assembly.proofs.KeyLemmas.{pushed_row}
use Rattle.pack_assembly.proofs.pack.push_nodes.Goals as goal

pub returns-clause-held : goal.returns-clause-held
returns-clause-held g c = λ true p is are rows held.
    let pushes = c.loop-row.invariant.1 true p is are rows (key_entry c.args.root.now.0 ∷ []) (c.in_ok-push_digest.ensures.held [] held) in
    subst (λ (l : List Row). Holds g.S.RunStore.runs g.S.RunStore.in_hand c.loop-row.digests (key_entry c.args.root.now.0 ∷ key_entries (flat_map (λ (row : Row). digests_of (nodes_in p row)) l)))
    (take_all c.loop-row.row-index c.args.rows.now c.loop-row-test.false) pushes

pub loop-row-preserved : goal.loop-row-preserved
loop-row-preserved g c = (
  c.in_ok-push_row.ensures.nodes ∙ c.loop-row.invariant.0,
  λ true p is are rows.
      pushed_row p (Holds g.S.RunStore.runs g.S.RunStore.in_hand c.push_digest.new.digests) (Holds g.S.RunStore.runs g.S.RunStore.in_hand c.loop-row.digests)
      (Holds g.S.RunStore.runs g.S.RunStore.in_hand c.push_row.new.digests) c.args.rows.now c.loop-row.row-index (record { tree = Objects; level = 0 }) c.loop-row-test.true
      (c.loop-row.invariant.1 true p is are rows)
      (c.in_ok-push_row.ensures.held true p is (subst (AreLevelsOf p c.args.trees.now) (sym c.loop-row.invariant.0) are)
      (subst (λ (l : List Row). Contains l (get_or c.args.rows.now c.loop-row.row-index (record { tree = Objects; level = 0 }))) rows (Contains-get_or c.args.rows.now c.loop-row.row-index (record { tree = Objects; level = 0 }) c.loop-row-test.true))),
)

pub returns-in_err-push_row-clause-device : goal.returns-in_err-push_row-clause-device
returns-in_err-push_row-clause-device g c = λ true refuses sorts p is are told.
    c.in_err-push_row.ensures.device true refuses sorts p is (subst (AreLevelsOf p c.args.trees.now) (sym c.loop-row.invariant.0) are) (search rules)
