use Rattle.std.proofs.Common.{◌≡◌, ◌∙◌, ◌+◌, [], ap, sym, refl, arith, rules}
use Rattle.osm_desk.proofs.shared.FoundLemmas.{found_after, none_found}
use Rattle.osm_gate.specs.Terms.{terms_of}
use Rattle.osm_traffic.proofs.StandLemmas.{moved}
use Rattle.std.specs.Prelude.{if◌then◌else◌}
use Rattle.osm_desk.specs.Desks.{fresh_desk}
use Rattle.osm_traffic.proofs.StandLemmas.{begins, serves, waits}
use Rattle.osm_traffic.proofs.serving.serve_many.Goals as goal
use Rattle.osm_traffic.proofs.serving.serve_many.Goals.{then-branch, else-branch}

pub loop-init : goal.loop-init
loop-init g c = record {
  few = omega arith;
  stands = λ p base held is. ([], rw c.new-outputs.ensures (begins g.M.Mirror.holds (terms_of c.args.most g.M.Mirror.may_fail) c.args.connections c.args.desk.now p base _ c.requires held is));
  found = none_found g.M.Mirror.holds (g.L.Lookout.found c.args.lookout.now) (g.L.Lookout.found c.args.lookout.now) c.args.desk.now.mirror c.args.desk.now.mirror refl refl;
}

pub loop-preserved : goal.loop-preserved
loop-preserved g c =
    let next : c.if-branch.taken ≡ (if c.in_ok-turn.field-0 then c.loop.taken + 1 else c.loop.taken) = elim c.if-branch.branch [
      | then-branch w ↦ w.taken-is ∙ sym (ap (λ b. if b then c.loop.taken + 1 else c.loop.taken) w.if-branch.true)
      | else-branch w ↦ w.taken-is ∙ sym (ap (λ b. if b then c.loop.taken + 1 else c.loop.taken) w.if-branch.false)
    ] in
    record {
      few = elim c.if-branch.branch [
        | then-branch w ↦ (
            let below = (c.room_for-room.ensures.0 (c.in_ok-turn.ensures.only_room w.if-branch.true)).0 in
            let is = w.taken-is in omega arith)
        | else-branch w ↦ (let is = w.taken-is in let few = c.loop.invariant.few in omega arith)
      ];
      stands = λ p base held is.
          let (deeds, s) = c.loop.invariant.stands p base held is in
          let t = waits g.M.Mirror.holds (terms_of c.args.most g.M.Mirror.may_fail) c.args.connections (fresh_desk p) base deeds _ _ _ c.loop.taken s c.room_for-room.result c.room_for-room.ensures in
          let (more, u) = c.in_ok-turn.ensures.stands c.args.connections (fresh_desk p) base _ (moved g.M.Mirror.holds (terms_of c.args.most g.M.Mirror.may_fail) c.args.connections (fresh_desk p) base _ _ _ _ _ _ _ c.loop.taken c.in_ok-news.ensures.told refl refl t) in
          (more, rw next u);
      found = found_after g.M.Mirror.holds (g.L.Lookout.found c.args.lookout.now) (g.L.Lookout.found c.loop.lookout) (g.L.Lookout.found c.turn.new.lookout) c.args.desk.now.mirror c.loop.desk.mirror c.turn.new.desk.mirror c.loop.invariant.found c.in_ok-turn.ensures.found;
    }

pub returns-then-is_empty-2-clause-served : goal.returns-then-is_empty-2-clause-served
returns-then-is_empty-2-clause-served g c = λ p base held is.
    let (deeds, s) = c.loop.invariant.stands p base held is in
    (deeds, s.logged, serves g.M.Mirror.holds (terms_of c.args.most g.M.Mirror.may_fail) c.args.connections _ base deeds _ _ _ _ s, s.desk, s.count ∙ c.if-taken-connections.true)

pub returns-in_err-news-clause-served : goal.returns-in_err-news-clause-served
returns-in_err-news-clause-served g c = λ p base held is.
    let (deeds, s) = c.loop.invariant.stands p base held is in
    (deeds, c.in_err-news.ensures.refused ∙ s.logged, serves g.M.Mirror.holds (terms_of c.args.most g.M.Mirror.may_fail) c.args.connections _ base deeds _ _ _ _ s, s.desk, search rules)

pub returns-in_err-turn-clause-served : goal.returns-in_err-turn-clause-served
returns-in_err-turn-clause-served g c = λ p base held is.
    let (deeds, s) = c.loop.invariant.stands p base held is in
    let t = waits g.M.Mirror.holds (terms_of c.args.most g.M.Mirror.may_fail) c.args.connections (fresh_desk p) base deeds _ _ _ c.loop.taken s c.room_for-room.result c.room_for-room.ensures in
    let (more, taken, u) = c.in_err-turn.ensures.refused c.args.connections (fresh_desk p) base _ (moved g.M.Mirror.holds (terms_of c.args.most g.M.Mirror.may_fail) c.args.connections (fresh_desk p) base _ _ _ _ _ _ _ c.loop.taken c.in_ok-news.ensures.told refl refl t) in
    (more, u.logged, serves g.M.Mirror.holds (terms_of c.args.most g.M.Mirror.may_fail) c.args.connections _ base more _ _ _ _ u, u.desk, search rules)

pub returns-in_err-turn-clause-found : goal.returns-in_err-turn-clause-found
returns-in_err-turn-clause-found g c = found_after g.M.Mirror.holds (g.L.Lookout.found c.args.lookout.now) (g.L.Lookout.found c.loop.lookout) (g.L.Lookout.found c.turn.new.lookout) c.args.desk.now.mirror c.loop.desk.mirror c.turn.new.desk.mirror c.loop.invariant.found c.in_err-turn.ensures.found

pub returns-clause-served : goal.returns-clause-served
returns-clause-served g c = λ p base held is.
    let (deeds, s) = c.loop.invariant.stands p base held is in
    (deeds, s.logged, serves g.M.Mirror.holds (terms_of c.args.most g.M.Mirror.may_fail) c.args.connections _ base deeds _ _ _ _ s, s.desk, tt)
