-- What is shown for a reason.
use Rattle.std.specs.Prelude.{◌≡◌, ◌≢◌, ◌⊎◌, ℕ, List}
use Rattle.osm_check.specs.declared.why.Why.{Why}
use Rattle.osm_check.specs.declared.why.Why.TheVariants as whys
use Rattle.mirror_answer.specs.declared.mirror_fault.MirrorFault.{MirrorFault}
use Rattle.mirror_answer.specs.declared.mirror_fault.MirrorFault.TheVariants.{OtherRoot, Proof}
use Rattle.mirror_answer.specs.declared.shown.Shown.{Shown}
use Rattle.mirror_answer.specs.declared.shown.Shown.TheVariants.{Refused, Unread}

-- the reason itself where the root is named that the client holds, else that it is another one
abbrev pub IsFaultFor : Why → (root named : List ℕ) → MirrorFault → Type 0
IsFaultFor why root named fault = ((named ≡ root) × (fault ≡ Proof why)) ⊎ ((named ≢ root) × (fault ≡ OtherRoot))

abbrev pub IsRefusedFor : Why → (root named : List ℕ) → Shown → Type 0
IsRefusedFor why root named shown = (fault : MirrorFault) × IsFaultFor why root named fault × (shown ≡ Refused fault)

-- a query that is refused isn't the mirror's fault
abbrev pub IsShownFor : Why → (root named : List ℕ) → Shown → Type 0
IsShownFor (whys.QueryRefused fault) root named shown = shown ≡ Unread fault
IsShownFor why root named shown = IsRefusedFor why root named shown
