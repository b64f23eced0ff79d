use Rattle.std.proofs.Common.{rules, ◌≡◌, ◌+◌, ◌<◌, ℕ, Some, ap, sym, subst, ◌∙◌}
use Rattle.std.specs.FinMap.{get, get-empty, len, len-empty}
use Rattle.std.specs.Ordering.{nat_cmp}
use Rattle.std.specs.Prelude.{IfSome}
use Rattle.osm_gate.specs.Connections.{Rest}
use Rattle.osm_index.specs.Snapshots.{HoldsPublication}
use Rattle.osm_index.specs.declared.snapshot.Snapshot.{Snapshot}
use Rattle.osm_desk.specs.Contents.{Contents}
use Rattle.osm_desk.specs.Desks.{Connections}
use Rattle.osm_serving.specs.declared.root_line.RootLine.TheVariants.{Optional}
use Rattle.osm_serving.proofs.ChangeLemmas.{asked_more, published_under, reached_end, reached_next}
use Rattle.osm_desk.proofs.shared.FoundLemmas.{found_after, found_kept}
use Rattle.osm_serving.proofs.desk_server.serve_desk.Goals as goal

pub returns-in_err-reader-clause-reached : goal.returns-in_err-reader-clause-reached
returns-in_err-reader-clause-reached g c = λ p holds.
    reached_end c.loop-taken.taken c.args.connections p c.loop-taken.desk.mirror c.loop-taken.invariant.few (c.loop-taken.invariant.reached p holds)

pub serve_on-requires-clause-free : goal.serve_on-requires-clause-free
serve_on-requires-clause-free g c =
    ap (λ (all : Connections). get all c.loop-taken.taken) (c.publish_next.ensures.connections ∙ c.loop-taken.invariant.none_open) ∙ get-empty nat_cmp c.loop-taken.taken

pub serve_on-requires-clause-room : goal.serve_on-requires-clause-room
serve_on-requires-clause-room g c =
    let none : len c.publish_next.new.desk.connections ≡ 0 = ap (λ (all : Connections). len all) (c.publish_next.ensures.connections ∙ c.loop-taken.invariant.none_open) ∙ len-empty nat_cmp Rest in
    subst (λ (n : ℕ). n < 64) (sym none) (search rules)

pub loop-taken-preserved : goal.loop-taken-preserved
loop-taken-preserved g c =
    let more : IfSome (g.L.Listener.accepted c.args.listener.now) (λ n. g.L.Listener.accepted c.close.new.self ≡ Some (n + (c.loop-taken.taken + 1))) = search rules in
    record {
      few = search rules;
      accepted = more;
      reached = λ p holds. reached_next c.loop-taken.taken p c.loop-taken.desk c.publish_next.new.desk c.serve_on.new.self (c.loop-taken.invariant.reached p holds) (λ m held. published_under Optional c.publish_next.new.desk.mirror m (c.publish_next.ensures.in_force m held)) c.serve_on.ensures.forgotten;
      asked = asked_more (g.C.ChangeSource.asked c.args.source.now) (g.C.ChangeSource.asked c.loop-taken.source) (g.C.ChangeSource.asked c.publish_next.new.source) c.loop-taken.desk.mirror.edition c.loop-taken.taken
          c.loop-taken.invariant.asked c.publish_next.ensures.asked;
      found = found_after HoldsPublication (g.C.ChangeSource.found c.args.source.now) (g.C.ChangeSource.found c.loop-taken.source) (g.C.ChangeSource.found c.publish_next.new.source) c.args.desk.now.mirror c.loop-taken.desk.mirror c.serve_on.new.self.mirror
          c.loop-taken.invariant.found (found_kept HoldsPublication (g.C.ChangeSource.found c.loop-taken.source) (g.C.ChangeSource.found c.publish_next.new.source) c.loop-taken.desk.mirror c.publish_next.new.desk.mirror c.serve_on.new.self.mirror
          (ap (λ (d : Contents Snapshot). d.mirror) c.serve_on.ensures.forgotten) c.publish_next.ensures.found);
      none_open = ap (λ (d : Contents Snapshot). d.connections) c.serve_on.ensures.forgotten ∙ (c.publish_next.ensures.connections ∙ c.loop-taken.invariant.none_open);
    }

pub returns-clause-reached : goal.returns-clause-reached
returns-clause-reached g c = λ p holds.
    reached_end c.loop-taken.taken c.args.connections p c.loop-taken.desk.mirror c.loop-taken.invariant.few (c.loop-taken.invariant.reached p holds)

pub returns-in_err-reader-clause-found : goal.returns-in_err-reader-clause-found
returns-in_err-reader-clause-found g c = c.loop-taken.invariant.found

pub returns-clause-found : goal.returns-clause-found
returns-clause-found g c = c.loop-taken.invariant.found
