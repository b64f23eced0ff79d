-- How the server stands between two happenings.
use Rattle.std.specs.FinMap.{FinMap, get, len}
use Rattle.std.specs.Ordering.{nat_cmp}
use Rattle.std.specs.Prelude.{◌≡◌, ◌≤◌, ℕ, true, false, List, [], ◌++◌, Option, Some, None}
use Rattle.osm_gate.specs.Terms.{Terms}
use Rattle.osm_keys.specs.Publications.{Publication}
use Rattle.osm_desk.specs.Contents.{Contents, StandsFor}
use Rattle.osm_desk.specs.Desks.{Desk}
use Rattle.osm_traffic.specs.Deeds.{AreCut, AreMade, AreSingle, Deed, HasRoom, IsHushed, IsPaced, MakesRoom, Runs, arrivals, desk_after, is_fed, log_of, open_count, owed, sent}
use Rattle.osm_traffic.specs.Entries.{Entry}

-- what each connection has coming that its socket hasn't taken yet
abbrev pub Waiting : Type 0
Waiting = FinMap nat_cmp (List ℕ)

abbrev pub IsOwed : Option (List ℕ) → List ℕ → List ℕ → Type 0
IsOwed None given all = (rest : List ℕ) × (given ++ rest ≡ all)
IsOwed (Some left) given all = given ++ left ≡ all

-- where this says which publications a mirror holds, and queries are answered on these terms
pub record Stands {M : Type 0} (holds : M → Publication → Type 0) (terms : Terms) (wanted : ℕ) (d : Desk) (base : List Entry) (deeds : List Deed) (log : Option (List Entry)) (outputs : Waiting) (contents : Contents M) (taken : ℕ) : Type 0 where
  pub logged : log ≡ Some (log_of deeds ++ base)
  pub ran : Runs terms d deeds
  pub desk : StandsFor holds contents (desk_after d deeds)
  pub owes : (c : ℕ) → IsOwed (get outputs c) (sent c deeds) (owed c deeds)
  pub known : (c : ℕ) → taken ≤ c → get outputs c ≡ None
  pub fresh : (c : ℕ) → taken ≤ c → (sent c deeds ≡ []) × (owed c deeds ≡ []) × (is_fed c deeds ≡ true)
  pub unopened : (c : ℕ) → taken ≤ c → get contents.connections c ≡ None
  pub gone : (c : ℕ) → is_fed c deeds ≡ false → get contents.connections c ≡ None
  pub hushed : IsHushed deeds
  pub paced : IsPaced deeds
  pub room : HasRoom d deeds
  pub made : AreMade d deeds
  pub cut : AreCut deeds
  pub single : AreSingle d deeds
  pub count : arrivals deeds ≡ taken
  pub open_are : len outputs ≡ open_count deeds
  pub makes_room : MakesRoom wanted d deeds

-- however it stood with so many connections taken, it stands again with that many, with more done
abbrev pub Moves : {M : Type 0} → (M → Publication → Type 0) → Terms → Option (List Entry) → Option (List Entry) → Waiting → Waiting → Contents M → Contents M → ℕ → ℕ → Type 0
Moves holds terms log log' outputs outputs' contents contents' taken taken' =
    (wanted : ℕ) (d : Desk) (base : List Entry) (deeds : List Deed) → Stands holds terms wanted d base deeds log outputs contents taken
    → (more : List Deed) × Stands holds terms wanted d base more log' outputs' contents' taken'

-- with as many as before
abbrev pub Keeps : {M : Type 0} → (M → Publication → Type 0) → Terms → Option (List Entry) → Option (List Entry) → Waiting → Waiting → Contents M → Contents M → Type 0
Keeps holds terms log log' outputs outputs' contents contents' = (taken : ℕ) → Moves holds terms log log' outputs outputs' contents contents' taken taken

-- with any number
abbrev pub Stops : {M : Type 0} → (M → Publication → Type 0) → Terms → Option (List Entry) → Option (List Entry) → Waiting → Waiting → Contents M → Contents M → ℕ → Type 0
Stops holds terms log log' outputs outputs' contents contents' taken =
    (wanted : ℕ) (d : Desk) (base : List Entry) (deeds : List Deed) → Stands holds terms wanted d base deeds log outputs contents taken
    → (more : List Deed) × (taken' : ℕ) × Stands holds terms wanted d base more log' outputs' contents' taken'
