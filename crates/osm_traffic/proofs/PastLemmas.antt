-- What was done before the last deeds is what a server did, too.
use Rattle.std.proofs.Common.{true, false, List, [], ◌∷◌, ◌++◌}
use Rattle.std.specs.Prelude.{Ok, Err}
use Rattle.osm_gate.specs.Terms.{Terms}
use Rattle.osm_desk.specs.Desks.{Desk}
use Rattle.osm_desk.specs.Happenings.{arrived, ended, opened, published}
use Rattle.osm_traffic.specs.Deeds.{Deed, HasRoom, IsHushed, IsPaced, Runs, handed, lost, parted, stepped, waited}

runs_one : (terms : Terms) (d : Desk) (deed : Deed) (before : List Deed) → Runs terms d (deed ∷ before) → Runs terms d before
runs_one terms d (stepped h (Ok answers)) before is = is.1
runs_one terms d (stepped h (Err fault)) before is = is.1
runs_one terms d (handed n bytes) before is = is
runs_one terms d (parted n whole) before is = is
runs_one terms d (lost n) before is = is
runs_one terms d (waited room) before is = is

room_one : (d : Desk) (deed : Deed) (before : List Deed) → HasRoom d (deed ∷ before) → HasRoom d before
room_one d (stepped (opened n) r) before is = is.2
room_one d (stepped (arrived n piece) r) before is = is
room_one d (stepped (ended n) r) before is = is
room_one d (stepped (published made) r) before is = is
room_one d (handed n bytes) before is = is
room_one d (parted n whole) before is = is
room_one d (lost n) before is = is
room_one d (waited room) before is = is

hushed_one : (deed : Deed) (before : List Deed) → IsHushed (deed ∷ before) → IsHushed before
hushed_one (stepped (opened n) r) before is = is.1
hushed_one (stepped (arrived n piece) r) before is = is.1
hushed_one (stepped (ended n) r) before is = is
hushed_one (stepped (published made) r) before is = is
hushed_one (handed n bytes) before is = is
hushed_one (parted n whole) before is = is
hushed_one (lost n) before is = is
hushed_one (waited room) before is = is

paced_one : (deed : Deed) (before : List Deed) → IsPaced (deed ∷ before) → IsPaced before
paced_one (stepped (opened n) r) before is = is
paced_one (stepped (arrived n piece) r) before is = is.1
paced_one (stepped (ended n) r) before is = is
paced_one (stepped (published made) r) before is = is
paced_one (handed n bytes) before is = is
paced_one (parted n false) before is = is
paced_one (parted n true) before is = is.1
paced_one (lost n) before is = is
paced_one (waited room) before is = is

pub runs_past : (terms : Terms) (d : Desk) (after before : List Deed) → Runs terms d (after ++ before) → Runs terms d before
runs_past terms d [] before is = is
runs_past terms d (deed ∷ after) before is = runs_past terms d after before (runs_one terms d deed (after ++ before) is)

pub room_past : (d : Desk) (after before : List Deed) → HasRoom d (after ++ before) → HasRoom d before
room_past d [] before is = is
room_past d (deed ∷ after) before is = room_past d after before (room_one d deed (after ++ before) is)

pub hushed_past : (after before : List Deed) → IsHushed (after ++ before) → IsHushed before
hushed_past [] before is = is
hushed_past (deed ∷ after) before is = hushed_past after before (hushed_one deed (after ++ before) is)

pub paced_past : (after before : List Deed) → IsPaced (after ++ before) → IsPaced before
paced_past [] before is = is
paced_past (deed ∷ after) before is = paced_past after before (paced_one deed (after ++ before) is)
