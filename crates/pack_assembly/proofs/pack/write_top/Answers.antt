use Rattle.std.proofs.Common.{arith, ◌≡◌, ◌≤◌, ◌-◌, ℕ, List, ap, length, subst, sym, take, ◌∙◌}
use Rattle.std.specs.Io.KnownBytes.{Appends}
use Rattle.byte_io.specs.Written.{AppendsFront}
use Rattle.osm_keys.specs.Publications.{tree_in}
use Rattle.node_pack.specs.Packs.{place_in, table}
use Rattle.pack_assembly.specs.internal.Order.{all_kepts, digests_of, nodes_in}
use Rattle.pack_assembly.specs.internal.Placing.{IsAmong}
use Rattle.pack_assembly.proofs.CountLemmas.{has_row}
use Rattle.pack_assembly.proofs.FaultLemmas.{none_there}
use Rattle.pack_assembly.proofs.LevelLemmas.{on_ok}
use Rattle.pack_assembly.proofs.ReadyLemmas.{is_among, top_some, top_taken, tree_some}
use Rattle.pack_assembly.proofs.RowLemmas.{row}
use Rattle.pack_assembly.proofs.pack.write_top.Goals as goal

pub returns-clause-whole : goal.returns-clause-whole
returns-clause-whole g c = λ true p ready heights.
    let level : c.saturating_sub-level.result ≡ length (tree_in p c.args.tree) - 1 = c.saturating_sub-level.ensures ∙ ap (λ (n : ℕ). n - 1) (c.height.ensures ∙ heights c.args.tree) in
    let ns = nodes_in p (row c.args.tree c.saturating_sub-level.result) in
    let among = subst (λ (u : List (List ℕ)). IsAmong (place_in (all_kepts p)) u c.in-Some.at ns) (sym c.rewind.ensures.unmeasured.there)
    (is_among p (g.L.NodeLevels.nodes c.args.levels.now) c.args.rows.now ready c.args.tree c.saturating_sub-level.result c.in-Some.at c.in-Some.ensures.at) in
    let some : 1 ≤ length ns = subst (λ (l : ℕ). 1 ≤ length (nodes_in p (row c.args.tree l))) (sym level) (top_some p ready.is c.args.tree) in
    on_ok c.write_table.result (c.write_table.ensures.whole true (place_in (all_kepts p)) ns among some)
    (λ written. subst (λ (ds : List (List ℕ)). Appends (g.W.Write.contents c.args.writer.now) (g.W.Write.contents c.write_table.new.writer) (table (place_in (all_kepts p)) ds))
    (ap (λ (l : ℕ). digests_of (take 1 (nodes_in p (row c.args.tree l)))) level ∙ top_taken p ready.is c.args.tree) written)

pub returns-clause-begun : goal.returns-clause-begun
returns-clause-begun g c = λ true p ready heights.
    let level : c.saturating_sub-level.result ≡ length (tree_in p c.args.tree) - 1 = c.saturating_sub-level.ensures ∙ ap (λ (n : ℕ). n - 1) (c.height.ensures ∙ heights c.args.tree) in
    let ns = nodes_in p (row c.args.tree c.saturating_sub-level.result) in
    let among = subst (λ (u : List (List ℕ)). IsAmong (place_in (all_kepts p)) u c.in-Some.at ns) (sym c.rewind.ensures.unmeasured.there)
    (is_among p (g.L.NodeLevels.nodes c.args.levels.now) c.args.rows.now ready c.args.tree c.saturating_sub-level.result c.in-Some.at c.in-Some.ensures.at) in
    let some : 1 ≤ length ns = subst (λ (l : ℕ). 1 ≤ length (nodes_in p (row c.args.tree l))) (sym level) (top_some p ready.is c.args.tree) in
    subst (λ (ds : List (List ℕ)). AppendsFront (g.W.Write.contents c.args.writer.now) (g.W.Write.contents c.write_table.new.writer) (table (place_in (all_kepts p)) ds))
    (ap (λ (l : ℕ). digests_of (take 1 (nodes_in p (row c.args.tree l)))) level ∙ top_taken p ready.is c.args.tree)
    (c.write_table.ensures.begun true (place_in (all_kepts p)) ns among some)

pub returns-clause-device : goal.returns-clause-device
returns-clause-device g c = λ true refuses p ready heights.
    let level : c.saturating_sub-level.result ≡ length (tree_in p c.args.tree) - 1 = c.saturating_sub-level.ensures ∙ ap (λ (n : ℕ). n - 1) (c.height.ensures ∙ heights c.args.tree) in
    let ns = nodes_in p (row c.args.tree c.saturating_sub-level.result) in
    let among = subst (λ (u : List (List ℕ)). IsAmong (place_in (all_kepts p)) u c.in-Some.at ns) (sym c.rewind.ensures.unmeasured.there)
    (is_among p (g.L.NodeLevels.nodes c.args.levels.now) c.args.rows.now ready c.args.tree c.saturating_sub-level.result c.in-Some.at c.in-Some.ensures.at) in
    let some : 1 ≤ length ns = subst (λ (l : ℕ). 1 ≤ length (nodes_in p (row c.args.tree l))) (sym level) (top_some p ready.is c.args.tree) in
    c.write_table.ensures.device true refuses (place_in (all_kepts p)) ns among some

pub returns-in_default-clause-device : goal.returns-in_default-clause-device
returns-in_default-clause-device g c = λ true refuses p ready heights told.
    let level : c.saturating_sub-level.result ≡ length (tree_in p c.args.tree) - 1 = c.saturating_sub-level.ensures ∙ ap (λ (n : ℕ). n - 1) (c.height.ensures ∙ heights c.args.tree) in
    let (at, has) = has_row p (g.L.NodeLevels.nodes c.args.levels.now) c.args.rows.now ready c.args.tree c.saturating_sub-level.result (omega (arith, level, tree_some p ready.is c.args.tree)) in
    absurd (none_there c.row_at.result c.in_default.is (c.row_at.ensures.there at has))
