use Rattle.std.proofs.Common.{◌≡◌, ◌≢◌, ◌≤◌, ◌∷◌, ◌-◌, ℕ, List, Option, drop, length, take, ap, subst, sym, ◌∙◌}
use Rattle.std.specs.Io.KnownBytes.{Appends}
use Rattle.std.proofs.KnownBytes.{Appends-nil}
use Rattle.byte_io.specs.Written.{AppendsFront}
use Rattle.tree_node.specs.Nodes.{Node}
use Rattle.tree_node.specs.Trees.{links_in}
use Rattle.tree_node.specs.declared.tree.Tree.{Tree}
use Rattle.node_pack.specs.Packs.{child_digests, table}
use Rattle.node_pack.specs.declared.place.Place.{Place}
use Rattle.pack_assembly.specs.declared.row.Row.{Row}
use Rattle.pack_assembly.specs.internal.Order.{digests_of}
use Rattle.pack_assembly.specs.internal.Placing.{AreParentsOf, IsAmong}
use Rattle.pack_assembly.proofs.LevelLemmas.{on_ok}
use Rattle.pack_assembly.proofs.TableLemmas.{above_childless, above_next, first_below, front_none, inner_level, no_table}
use Rattle.pack_assembly.proofs.level.write_children.Goals as goal

-- the children are those that are yet to be measured one level below
below : (place_of : List ℕ → Option Place) (unmeasured : Tree → ℕ → List (List ℕ)) (row lower_row : Row) (at : ℕ) (own : Node) (others lower : List Node)
    → lower_row.tree ≡ row.tree → lower_row.level ≡ row.level - 1 → AreParentsOf place_of (unmeasured row.tree (row.level - 1)) row at (own ∷ others) lower → length (links_in own) ≢ 0
    → IsAmong place_of (unmeasured lower_row.tree lower_row.level) at lower
below place_of unmeasured row lower_row at own others lower tree level above some =
    subst (λ (t : Tree). IsAmong place_of (unmeasured t lower_row.level) at lower) (sym tree)
    (subst (λ (l : ℕ). IsAmong place_of (unmeasured row.tree l) at lower) (sym level) (above.among (inner_level row.level own above.are.0 some)))

back : (place_of : List ℕ → Option Place) (unmeasured : Tree → ℕ → List (List ℕ)) (row lower_row : Row) (at : ℕ) (lower : List Node)
    → lower_row.tree ≡ row.tree → lower_row.level ≡ row.level - 1 → IsAmong place_of (unmeasured lower_row.tree lower_row.level) at lower → IsAmong place_of (unmeasured row.tree (row.level - 1)) at lower
back place_of unmeasured row lower_row at lower tree level among =
    subst (λ (l : ℕ). IsAmong place_of (unmeasured row.tree l) at lower) level (subst (λ (t : Tree). IsAmong place_of (unmeasured t lower_row.level) at lower) tree among)

pub returns-clause-whole : goal.returns-clause-whole
returns-clause-whole g c = λ true place_of own others lower above is.
    let first = first_below own others lower above.joined in
    let some : length (links_in own) ≢ 0 = λ none. c.if-count-eq0.false (is ∙ none) in
    let among = below place_of (g.L.NodeLevels.unmeasured c.args.levels.now) c.args.row c.lower_row.result c.args.at.now own others lower c.lower_row.ensures.tree c.lower_row.ensures.level above some in
    on_ok c.write_table.result (c.write_table.ensures.whole true place_of lower among (subst (λ (n : ℕ). n ≤ length lower) (sym is) first.few))
    (λ written. subst (λ (ds : List (List ℕ)). Appends (g.W.Write.contents c.args.writer.now) (g.W.Write.contents c.write_table.new.writer) (table place_of ds))
    (ap (λ (n : ℕ). digests_of (take n lower)) is ∙ first.taken) written)

pub returns-clause-past : goal.returns-clause-past
returns-clause-past g c = λ true place_of own others lower above is.
    let first = first_below own others lower above.joined in
    let some : length (links_in own) ≢ 0 = λ none. c.if-count-eq0.false (is ∙ none) in
    let among = below place_of (g.L.NodeLevels.unmeasured c.args.levels.now) c.args.row c.lower_row.result c.args.at.now own others lower c.lower_row.ensures.tree c.lower_row.ensures.level above some in
    let now = g.L.NodeLevels.unmeasured c.write_table.new.levels in
    on_ok c.write_table.result (c.write_table.ensures.past true place_of lower among (subst (λ (n : ℕ). n ≤ length lower) (sym is) first.few))
    (λ past.
    let left = back place_of now c.args.row c.lower_row.result c.write_table.new.at (drop c.args.count lower) c.lower_row.ensures.tree c.lower_row.ensures.level past in
    let next = above_next place_of (g.L.NodeLevels.unmeasured c.args.levels.now c.args.row.tree (c.args.row.level - 1)) (now c.args.row.tree (c.args.row.level - 1)) c.args.row c.args.at.now c.write_table.new.at own others lower above
    (λ deep. subst (λ (n : ℕ). IsAmong place_of (now c.args.row.tree (c.args.row.level - 1)) c.write_table.new.at (drop n lower)) is left) in
    subst (λ (n : ℕ). AreParentsOf place_of (now c.args.row.tree (c.args.row.level - 1)) c.args.row c.write_table.new.at others (drop n lower)) (sym is) next)

pub returns-clause-begun : goal.returns-clause-begun
returns-clause-begun g c = λ true place_of own others lower above is.
    let first = first_below own others lower above.joined in
    let some : length (links_in own) ≢ 0 = λ none. c.if-count-eq0.false (is ∙ none) in
    let among = below place_of (g.L.NodeLevels.unmeasured c.args.levels.now) c.args.row c.lower_row.result c.args.at.now own others lower c.lower_row.ensures.tree c.lower_row.ensures.level above some in
    subst (λ (ds : List (List ℕ)). AppendsFront (g.W.Write.contents c.args.writer.now) (g.W.Write.contents c.write_table.new.writer) (table place_of ds))
    (ap (λ (n : ℕ). digests_of (take n lower)) is ∙ first.taken)
    (c.write_table.ensures.begun true place_of lower among (subst (λ (n : ℕ). n ≤ length lower) (sym is) first.few))

-- a node without children has an empty table, and nothing is written
pub returns-then-count-eq0-clause-whole : goal.returns-then-count-eq0-clause-whole
returns-then-count-eq0-clause-whole g c = λ true place_of own others lower above is.
    subst (Appends (g.W.Write.contents c.args.writer.now) (g.W.Write.contents c.args.writer.now)) (sym (no_table place_of own (sym is ∙ c.if-count-eq0.true))) (Appends-nil (g.W.Write.contents c.args.writer.now))

pub returns-then-count-eq0-clause-past : goal.returns-then-count-eq0-clause-past
returns-then-count-eq0-clause-past g c = λ true place_of own others lower above is.
    let unmeasured = g.L.NodeLevels.unmeasured c.args.levels.now c.args.row.tree (c.args.row.level - 1) in
    subst (λ (n : ℕ). AreParentsOf place_of unmeasured c.args.row c.args.at.now others (drop n lower)) (sym is)
    (above_childless place_of unmeasured c.args.row c.args.at.now own others lower above (sym is ∙ c.if-count-eq0.true))

pub returns-then-count-eq0-clause-begun : goal.returns-then-count-eq0-clause-begun
returns-then-count-eq0-clause-begun g c = λ true place_of own others lower above is.
    front_none (g.W.Write.contents c.args.writer.now) (table place_of (child_digests own))

pub returns-clause-device : goal.returns-clause-device
returns-clause-device g c = λ true refuses place_of own others lower above is.
    let first = first_below own others lower above.joined in
    let some : length (links_in own) ≢ 0 = λ none. c.if-count-eq0.false (is ∙ none) in
    let among = below place_of (g.L.NodeLevels.unmeasured c.args.levels.now) c.args.row c.lower_row.result c.args.at.now own others lower c.lower_row.ensures.tree c.lower_row.ensures.level above some in
    c.write_table.ensures.device true refuses place_of lower among (subst (λ (n : ℕ). n ≤ length lower) (sym is) first.few)
