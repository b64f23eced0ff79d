-- The texts of refusals.
-- Source: this project.
use Rattle.std.specs.Prelude.{ℕ, List, ◌++◌, codes}
use Rattle.std.specs.Fmt.{decimal}
use Rattle.opl_codec.specs.declared.cause.OplCause.{OplCause}
use Rattle.opl_codec.specs.declared.cause.OplCause.TheVariants as causes
use Rattle.opl_codec.specs.declared.fault.LoadFault.{LoadFault}

-- the code of a cause
abbrev pub code_text : OplCause → List ℕ
code_text causes.UnknownObject = codes "O1"
code_text causes.BadId = codes "O2"
code_text causes.UnknownField = codes "O3"
code_text causes.FieldTwice = codes "O4"
code_text causes.OtherKind = codes "O5"
code_text causes.BadValue = codes "O6"
code_text causes.BadEscape = codes "O7"
code_text causes.NotUtf8 = codes "O8"
code_text causes.NoLocation = codes "O9"
code_text causes.Deleted = codes "O10"
code_text causes.LocatedNode = codes "O11"
code_text causes.LineTooLong = codes "O12"
code_text causes.OutsideModel = codes "O13"
code_text causes.ReaderFailed = codes "O14"
code_text causes.Endless = codes "O15"
code_text causes.Memory = codes "no memory"

-- the code, the line and the byte
abbrev pub place_text : LoadFault → List ℕ
place_text fault = code_text fault.fault.cause ++ (codes " line " ++ (decimal fault.line ++ (codes " byte " ++ decimal fault.fault.byte)))

-- out of memory has no place
abbrev pub told_text : LoadFault → OplCause → List ℕ
told_text fault causes.Memory = codes "no memory"
told_text fault _ = place_text fault

-- the text of the refusal of a file
abbrev pub load_text : LoadFault → List ℕ
load_text fault = told_text fault fault.fault.cause
