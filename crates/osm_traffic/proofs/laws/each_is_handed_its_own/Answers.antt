use Rattle.std.proofs.Common.{◌∙◌, [], ◌∷◌, ◌++◌, append_assoc, subst, sym, true}
use Rattle.osm_desk.specs.Desks.{fresh_desk}
use Rattle.osm_desk.specs.Happenings.{arrived}
use Rattle.osm_desk.specs.Runs.{texts_got}
use Rattle.osm_traffic.specs.Deeds.{Runs, in_order, parted, stepped}
use Rattle.osm_traffic.proofs.RunLemmas.{finds_in_order, handed_own, owed_joined, ran_in_order}
use Rattle.osm_traffic.proofs.PastLemmas.{hushed_past, paced_past, room_past, runs_past}
use Rattle.osm_traffic.proofs.laws.each_is_handed_its_own.Goals as goal

pub returns-clause-own : goal.returns-clause-own
returns-clause-own c = λ terms n wanted p deeds s. (
  texts_got n (in_order deeds),
  c.runs_tell_each_its_own.ensures.on_terms terms n (in_order deeds) p (ran_in_order terms (fresh_desk p) deeds s.ran) (finds_in_order terms n (fresh_desk p) deeds s.ran s.room),
  handed_own terms n wanted (fresh_desk p) deeds s,
)

pub returns-clause-whole : goal.returns-clause-whole
returns-clause-whole c = λ terms n wanted p after before s.
    let runs = runs_past terms (fresh_desk p) after (parted n true ∷ before) s.ran in
    let room = room_past (fresh_desk p) after (parted n true ∷ before) s.room in
    let hushed = hushed_past after (parted n true ∷ before) s.hushed in
    let paced = paced_past after (parted n true ∷ before) s.paced in (
      texts_got n (in_order before),
      c.runs_tell_each_its_own.ensures.on_terms terms n (in_order before) p (ran_in_order terms (fresh_desk p) before runs) (finds_in_order terms n (fresh_desk p) before runs room),
      paced.0 ∙ owed_joined terms n (fresh_desk p) before runs hushed,
    )

pub returns-clause-read : goal.returns-clause-read
returns-clause-read c = λ terms n wanted p piece r after before s.
    let here = stepped (arrived n piece) r in
    let runs = runs_past terms (fresh_desk p) (after ++ here ∷ []) before (subst (Runs terms (fresh_desk p)) (sym (append_assoc after (here ∷ []) before)) s.ran) in
    let room = room_past (fresh_desk p) after (here ∷ before) s.room in
    let hushed = hushed_past after (here ∷ before) s.hushed in
    let paced = paced_past after (here ∷ before) s.paced in (
      texts_got n (in_order before),
      c.runs_tell_each_its_own.ensures.on_terms terms n (in_order before) p (ran_in_order terms (fresh_desk p) before runs) (finds_in_order terms n (fresh_desk p) before runs room),
      paced.0 ∙ owed_joined terms n (fresh_desk p) before runs hushed.1,
    )
