use Rattle.std.proofs.Common.{◌∙◌, ◌<◌, ◌+◌, ap, sym, refl, subst}
use Rattle.std.specs.FinMap.{len}
use Rattle.osm_desk.specs.Desks.{Connections}
use Rattle.osm_traffic.specs.Entries.{taken_by}
use Rattle.osm_desk.proofs.shared.FoundLemmas.{found_kept, none_found}
use Rattle.osm_traffic.proofs.StandLemmas.{looked, moved, on_err_any}
use Rattle.osm_traffic.proofs.welcome.welcome.Goals as goal

pub returns-in_err-take-clause-refused : goal.returns-in_err-take-clause-refused
returns-in_err-take-clause-refused g c = λ terms. on_err_any _ c.from_residual.result (λ wanted d base deeds s.
    (deeds, c.args.number, moved g.M.Mirror.holds terms wanted d base deeds _ _ _ _ _ _ c.args.number c.in_err-take.ensures.refused refl refl s))

pub returns-in_err-take-clause-found : goal.returns-in_err-take-clause-found
returns-in_err-take-clause-found g c = none_found g.M.Mirror.holds (g.L.Lookout.found c.args.lookout.now) (g.L.Lookout.found c.args.lookout.now) c.args.desk.now.mirror c.args.desk.now.mirror refl refl

pub returns-then-not-branch-clause-stands : goal.returns-then-not-branch-clause-stands
returns-then-not-branch-clause-stands g c = λ terms wanted d base deeds s. (
  deeds,
  moved g.M.Mirror.holds terms wanted d base deeds _ _ _ _ _ _ c.args.number
      (c.in_ok-take.ensures.taken ∙ ap (λ b. taken_by b c.args.number (g.T.Traffic.log c.args.traffic.now)) c.if-not-branch.true) refl refl s,
)

pub returns-then-not-branch-clause-found : goal.returns-then-not-branch-clause-found
returns-then-not-branch-clause-found g c = none_found g.M.Mirror.holds (g.L.Lookout.found c.args.lookout.now) (g.L.Lookout.found c.args.lookout.now) c.args.desk.now.mirror c.args.desk.now.mirror refl refl

pub open-requires : goal.open-requires
open-requires g c = record { room = subst (λ (all : Connections). len all < 64) (sym c.look.ensures.connections) c.requires.room }

pub returns-in_default-clause-refused : goal.returns-in_default-clause-refused
returns-in_default-clause-refused g c = λ terms wanted d base deeds s.
    let (more, still) = looked g.M.Mirror.holds terms wanted d base deeds (g.T.Traffic.log c.args.traffic.now) c.args.outputs.now _ _ c.args.number s c.look.ensures.connections c.look.ensures.in_force in
    let (all, is_open) = c.open.ensures.stands terms (g.T.Traffic.log c.args.traffic.now) wanted d base more still in (
      all,
      c.args.number + 1,
      moved g.M.Mirror.holds terms wanted d base all _ _ _ _ _ _ (c.args.number + 1)
          (c.in_ok-take.ensures.taken ∙ ap (λ b. taken_by b c.args.number (g.T.Traffic.log c.args.traffic.now)) c.if-not-branch.false) refl refl is_open,
    )

pub returns-in_default-clause-found : goal.returns-in_default-clause-found
returns-in_default-clause-found g c = found_kept g.M.Mirror.holds (g.L.Lookout.found c.args.lookout.now) (g.L.Lookout.found c.look.new.self) c.args.desk.now.mirror c.look.new.desk.mirror c.open.new.desk.mirror c.open.ensures.mirror c.look.ensures.found

pub returns-clause-stands : goal.returns-clause-stands
returns-clause-stands g c = λ terms wanted d base deeds s.
    let (more, still) = looked g.M.Mirror.holds terms wanted d base deeds (g.T.Traffic.log c.args.traffic.now) c.args.outputs.now _ _ c.args.number s c.look.ensures.connections c.look.ensures.in_force in
    let (all, is_open) = c.open.ensures.stands terms (g.T.Traffic.log c.args.traffic.now) wanted d base more still in
    c.hand.ensures.kept terms (c.args.number + 1) wanted d base all (moved g.M.Mirror.holds terms wanted d base all _ _ _ _ _ _ (c.args.number + 1)
    (c.in_ok-take.ensures.taken ∙ ap (λ b. taken_by b c.args.number (g.T.Traffic.log c.args.traffic.now)) c.if-not-branch.false) refl refl is_open)

pub returns-clause-found : goal.returns-clause-found
returns-clause-found g c = found_kept g.M.Mirror.holds (g.L.Lookout.found c.args.lookout.now) (g.L.Lookout.found c.look.new.self) c.args.desk.now.mirror c.look.new.desk.mirror c.hand.new.desk.mirror (c.hand.ensures.mirror ∙ c.open.ensures.mirror) c.look.ensures.found
