use Rattle.std.proofs.Common.{◌+◌, ◌≤◌, length, map, sym, ap, subst, ◌∙◌, add-one, arith}
use Rattle.std.proofs.lemmas.List.{length-map}
use Rattle.tree_node.specs.NodeRefs.{link_of, links_of, number_of}
use Rattle.tree_node.specs.Nodes.{Inner}
use Rattle.tree_node.specs.Trees.{Two, ends_by, is_marked_link, link_to, pieces}
use Rattle.tree_build.specs.internal.Building.{AreWithin}
use Rattle.tree_build.specs.internal.Edits.{Each, IsNewNode}
use Rattle.tree_build.specs.internal.Towers.{tower}
use Rattle.tree_build.proofs.GrowLemmas.{growing_next, growing_start, made_next, some_next, tower_half, tower_low, tower_some}
use Rattle.tree_build.proofs.OldLevels.{tower_within}
use Rattle.tree_build.proofs.StepStates.{each_length}
use Rattle.tree_build.proofs.grow_top.grow_top.Goals as goal
use Rattle.tree_build.proofs.grow_top.grow_top.Goals.{then-level-ge-LEVEL_LIMIT-via-then-level-ge-LEVEL_LIMIT, then-level-ge-LEVEL_LIMIT-via-else-level-ge-LEVEL_LIMIT+then-not-are_within}

pub growing-init : goal.growing-init
growing-init c = λ entries has some stand. growing_start _ c.args.before _ _ (c.in_ok-children.ensures _ stand) (some_next c.args.nodes.now _ stand some)

pub returns-then-level-ge-LEVEL_LIMIT-clause-served : goal.returns-then-level-ge-LEVEL_LIMIT-clause-served
returns-then-level-ge-LEVEL_LIMIT-clause-served c = λ entries has some stand.
    let so = c.growing.invariant entries has some stand in
    let low = tower_low (number_of c.args.tree) entries has c.growing.level (omega (arith, c.growing-test.true, c.len.ensures, ap length so.linked, length-map (tower Two (number_of c.args.tree) entries c.growing.level) link_to, length-map c.growing.children.items link_of)) in
    absurd (elim c.then-level-ge-LEVEL_LIMIT.branch [
      | then-level-ge-LEVEL_LIMIT-via-then-level-ge-LEVEL_LIMIT w ↦ omega (arith, low, w.if-level-ge-LEVEL_LIMIT.true)
      | then-level-ge-LEVEL_LIMIT-via-else-level-ge-LEVEL_LIMIT+then-not-are_within w ↦
          let yes = w.are_within.ensures.1 (subst AreWithin (sym (ap links_of w.as_slice.ensures.value ∙ so.linked)) (tower_within (number_of c.args.tree) entries has c.growing.level)) in cc
    ])

pub growing-preserved : goal.growing-preserved
growing-preserved c = λ entries has some stand.
    let so = c.growing.invariant entries has some stand in
    let made = made_next (number_of c.args.tree) entries c.growing.level _ _ (ap links_of c.as_slice-in-growing.ensures.value ∙ so.linked) c.in_ok-news.ensures in
    growing_next (tower Two (number_of c.args.tree) entries) c.args.before c.growing.level _ _ _ _ _ so (omega (arith, c.growing-test.true, c.len.ensures, length-map c.growing.children.items link_of)) (c.in_ok-add_all.ensures _ made)
    (c.in_ok-children-2.ensures _ (subst (λ ns. Each IsNewNode ns (tower Two (number_of c.args.tree) entries (c.growing.level + 1))) (sym c.as_slice-in-growing-2.ensures.value) made)) (subst (λ n. 1 ≤ length (tower Two (number_of c.args.tree) entries n)) (sym (add-one c.growing.level)) (tower_some (number_of c.args.tree) entries c.growing.level so.some))

pub growing-smaller : goal.growing-smaller
growing-smaller c =
    let known = map (Inner (number_of c.args.tree) (c.growing.level + 1)) (pieces (ends_by Two is_marked_link) (links_of c.as_slice-in-growing.result.now)) in
    let links = c.in_ok-children-2.ensures known (subst (λ ns. Each IsNewNode ns known) (sym c.as_slice-in-growing-2.ensures.value) c.in_ok-news.ensures) in
    omega (
      arith,
      ap length links,
      length-map c.in_ok-children-2.children.items link_of,
      length-map known link_to,
      each_length IsNewNode c.in_ok-news.news.items known c.in_ok-news.ensures,
      c.if-len.false,
      c.len-in-growing.ensures,
      c.len-in-growing-2.ensures,
      c.in_ok-news.news.ok.0,
      c.growing.children.ok.0,
    )

pub returns-then-len-clause-served : goal.returns-then-len-clause-served
returns-then-len-clause-served c = λ entries has some stand.
    let so = c.growing.invariant entries has some stand in
    let tree = number_of c.args.tree in
    let made = made_next tree entries c.growing.level _ _ (ap links_of c.as_slice-in-growing.ensures.value ∙ so.linked) c.in_ok-news.ensures in
    absurd (omega (
      arith,
      tower_half tree entries c.growing.level,
      ap (λ n. length (tower Two tree entries n)) (add-one c.growing.level),
      each_length IsNewNode c.in_ok-news.news.items (tower Two tree entries (c.growing.level + 1)) made,
      ap length so.linked,
      length-map (tower Two tree entries c.growing.level) link_to,
      length-map c.growing.children.items link_of,
      c.if-len.true,
      c.len.ensures,
      c.growing-test.true,
      c.len-in-growing.ensures,
      c.len-in-growing-2.ensures,
      c.in_ok-news.news.ok.0,
      c.growing.children.ok.0,
    ))
