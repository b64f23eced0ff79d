-- What the commands `prove` and `check` write, and when they write nothing.
-- Source: this project.
use Rattle.std.specs.Prelude.{◌≡◌, ℕ, ◌≤◌, ◌^◌, ◌⊎◌, List, Option, Some, None, IfSome, length, ⊤}
use Rattle.std.specs.Io.KnownBytes.{Keeps}
use Rattle.osm_model.specs.Elements.{Element}
use Rattle.osm_keys.specs.Publications.{Publication}
use Rattle.osm_keys.specs.declared.edition.Edition.{Edition}
use Rattle.osm_prove.specs.Proved.{IsProved}
use Rattle.osm_check.specs.Verdicts.{IsVerdict}
use Rattle.osm_check.specs.declared.verdict.Verdict.{Verdict}
use Rattle.osm_commands.specs.Ask.{Explains, HoldsTrees}
use Rattle.osm_commands.specs.RootLines.{verdict_line}
use Rattle.osm_commands.specs.TreeRoots.{IsOutsideOrTrees, IsPublicationIn, publication_line}
use Rattle.byte_io.specs.Written.{AppendsFront}
use Rattle.osm_commands.specs.WholeFiles.{IsTooLarge}
use Rattle.osm_commands.specs.Written.{AppendInTurn, IsUntouched, Output}
use Rattle.osm_commands.specs.declared.command_fault.CommandFault.{CommandFault}
use Rattle.osm_commands.specs.declared.command_fault.CommandFault.TheVariants.{Endless, TooLarge, Work, Memory, Device}

-- what is said of two readers' bytes, where both tell them
abbrev pub IfBoth : Option (List ℕ) → Option (List ℕ) → (List ℕ → List ℕ → Type 0) → Type 0
IfBoth None second P = ⊤
IfBoth (Some a) None P = ⊤
IfBoth (Some a) (Some b) P = P a b

-- the same of three
abbrev pub IfThree : Option (List ℕ) → Option (List ℕ) → Option (List ℕ) → (List ℕ → List ℕ → List ℕ → Type 0) → Type 0
IfThree None second third P = ⊤
IfThree (Some a) second third P = IfBoth second third (P a)

-- the bytes are so many that a reader of them may be told to have no end
abbrev pub IsEndless : List ℕ → Type 0
IsEndless bytes = 2 ^ 32 ≤ length bytes

-- ---- `prove`

-- a publication in this edition of a set that the file holds, the answer to a query over it, and the proof of it
pub record IsProvedIn (file query : List ℕ) (edition : Edition) (p : Publication) (answer proof : List ℕ) : Type 0 where
  pub published : IsPublicationIn file edition p
  pub proved : IsProved p query answer proof

-- the fault lies outside the files' bytes (also a query's file that never ended), or the trees of this set can't be made
abbrev pub IsOutsideFiles : List Element → Edition → CommandFault → Type 0
IsOutsideFiles set edition fault = IsOutsideOrTrees set edition fault ⊎ (fault ≡ Endless)

-- why each fault of `prove` comes, where this is left of the file
abbrev pub ExplainsFiles : (file : List ℕ) (left : Option (List ℕ)) (edition : Edition) (query : List ℕ) → CommandFault → Type 0
ExplainsFiles file left edition query Endless = HoldsTrees file edition × IsEndless query
ExplainsFiles file left edition query fault = Explains file left edition query fault

-- the three writers have gained nothing, or, in this order, the answer, its proof and the root's line, as far as it went
abbrev pub IsBegunProof : (file query : List ℕ) (edition : Edition) (answer proof root : Output) → Type 0
IsBegunProof file query edition answer proof root =
    (IsUntouched answer × IsUntouched proof × IsUntouched root)
    ⊎ ((p : Publication) × (text : List ℕ) × (nodes : List ℕ) × IsProvedIn file query edition p text nodes
    × AppendInTurn (record { text = text; output = answer }) (record { text = nodes; output = proof }) (record { text = publication_line p; output = root }))

-- ---- `check`

-- a file wasn't read: the fault lies outside its bytes
abbrev pub IsUnread : CommandFault → Type 0
IsUnread fault = (fault ≡ Endless) ⊎ ((fault ≡ Memory) ⊎ (fault ≡ Device))

-- a file wasn't read whole
abbrev pub IsUnreadOrTooLarge : CommandFault → Type 0
IsUnreadOrTooLarge fault = (fault ≡ TooLarge) ⊎ IsUnread fault

-- or there is more to do for the query than the budget has
abbrev pub IsUnchecked : CommandFault → Type 0
IsUnchecked fault = (fault ≡ Work) ⊎ IsUnreadOrTooLarge fault

-- a file that tells its bytes isn't too large
abbrev pub FitsWithin : Option ℕ → Option (List ℕ) → Type 0
FitsWithin limit known = IfSome known (λ bytes. ¬ (IsTooLarge limit bytes))

-- a file is told to have no end only where the answer or the proof is so long
abbrev pub ExplainsEndless : (answer proof : List ℕ) → CommandFault → Type 0
ExplainsEndless answer proof fault = fault ≡ Endless → IsEndless answer ⊎ IsEndless proof

-- a file is told to be too large only where the answer is, or the answer isn't and the proof is
abbrev pub ExplainsTooLarge : (limit : Option ℕ) (answer proof : List ℕ) → CommandFault → Type 0
ExplainsTooLarge limit answer proof fault = fault ≡ TooLarge → IsTooLarge limit answer ⊎ (¬ (IsTooLarge limit answer) × IsTooLarge limit proof)

-- the output has gained nothing, or a beginning of the verdict's line
abbrev pub IsBegunVerdict : (query root answer proof : List ℕ) (old new : Option (List ℕ)) → Type 0
IsBegunVerdict query root answer proof old new = Keeps old new ⊎ ((verdict : Verdict) × IsVerdict query root answer proof verdict × AppendsFront old new (verdict_line verdict))
