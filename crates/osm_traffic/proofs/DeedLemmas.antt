-- What a deed adds to what was sent and owed.
use Rattle.std.proofs.Common.{◌≡◌, ◌∙◌, ℕ, List, [], ◌∷◌, ◌++◌, ap, refl}
use Rattle.std.proofs.lemmas.Bool.{eq-eqb, ne_eqb}
use Rattle.std.proofs.lemmas.List.{append-nil}
use Rattle.std.specs.Prelude.{◌==◌, Result, if◌then◌else◌}
use Rattle.osm_desk.specs.Happenings.{Happening}
use Rattle.osm_desk.specs.declared.desk_fault.DeskFault.{DeskFault}
use Rattle.osm_traffic.specs.Deeds.{Deed, owed, stepped, text_for}

pub quiet : (c : ℕ) (h : Happening) (r : Result (List (ℕ × List ℕ)) DeskFault) (deeds : List Deed) → text_for c h r ≡ [] → owed c (stepped h r ∷ deeds) ≡ owed c deeds
quiet c h r deeds none = ap (λ text. owed c deeds ++ text) none ∙ append-nil (owed c deeds)

pub same : {X : Type 0} (n : ℕ) (x y : X) → (if n == n then x else y) ≡ x
same n x y = ap (λ b. if b then x else y) (eq-eqb n n refl)

pub other : {X : Type 0} (n c : ℕ) (x y : X) → (n ≡ c → ⊥) → (if n == c then x else y) ≡ y
other n c x y apart = ap (λ b. if b then x else y) (ne_eqb n c apart)
