-- The first wrong line of a text that is no head's.
-- Source: this project's heads, docs/FORMATS.md.
use Rattle.std.specs.Prelude.{◌≡◌, ◌⊎◌, ◌<◌, ◌≤◌, ◌^◌, ℕ, zero, suc, List, [], ◌∷◌, ⊤}
use Rattle.pack_head.specs.Heads.{IsHeadFile, IsRoot, file_line, manifest_line, root_line, sequence_line, version_line}
use Rattle.pack_head.specs.declared.fault.HeadFault.{HeadFault}
use Rattle.pack_head.specs.declared.fault.HeadFault.TheVariants.{Line, Memory}
use Rattle.pack_head.specs.declared.head.HeadFile.{HeadFile}
use Rattle.pack_head.specs.declared.limits.TheConstants.{FILES_LIMIT}

-- ---- right lines

abbrev pub IsRootLine : List ℕ → Type 0
IsRootLine line = (root : List ℕ) × IsRoot root × (line ≡ root_line root)

abbrev pub IsSequenceLine : List ℕ → Type 0
IsSequenceLine line = (sequence : ℕ) × (sequence < 2 ^ 64) × (line ≡ sequence_line sequence)

abbrev pub IsManifestLine : List ℕ → Type 0
IsManifestLine line = (at : ℕ) × (len : ℕ) × (at < 2 ^ 64) × (len < 2 ^ 32) × (line ≡ manifest_line at len)

-- the line of the file with this number, from 0
abbrev pub IsFileLine : ℕ → List ℕ → Type 0
IsFileLine number line = (file : HeadFile) × (number < FILES_LIMIT) × IsHeadFile file × (line ≡ file_line file)

-- The line is right at this place, from 0: there are four lines of which each has its own form, and after them the files' lines.
abbrev pub IsLineAt : ℕ → List ℕ → Type 0
IsLineAt zero line = line ≡ version_line
IsLineAt (suc zero) line = IsRootLine line
IsLineAt (suc (suc zero)) line = IsSequenceLine line
IsLineAt (suc (suc (suc zero))) line = IsManifestLine line
IsLineAt (suc (suc (suc (suc number)))) line = IsFileLine number line

-- The end of the text may come at this place: the line is what follows the last line feed, which is nothing, and one file's line at
-- least is before it.
pub record IsEndAt (place : ℕ) (line : List ℕ) (later : List (List ℕ)) : Type 0 where
  pub after_file : 5 ≤ place
  pub nothing : line ≡ []
  pub last : later ≡ []

-- ---- the first wrong line

-- Of these lines, the first of which is at this place, the one with this number (from 1) is the first that is neither right nor the
-- end; or all are right, and the line with this number is missing.
abbrev pub IsFirstWrong : ℕ → List (List ℕ) → ℕ → Type 0
IsFirstWrong place [] number = number ≡ suc place
IsFirstWrong place (line ∷ later) number =
    (IsLineAt place line × IsFirstWrong (suc place) later number)
    ⊎ ((¬ IsLineAt place line) × (¬ IsEndAt place line later) × (number ≡ suc place))

-- the fault of a text with these lines, unless it is memory that is refused
abbrev pub IsFault : ℕ → List (List ℕ) → HeadFault → Type 0
IsFault place lines (Line number) = IsFirstWrong place lines number
IsFault place lines Memory = ⊤
