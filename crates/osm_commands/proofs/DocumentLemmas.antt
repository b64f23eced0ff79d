-- What is written of two texts, one after the other.
use Rattle.std.proofs.Common.{ℕ, ◌+◌, List, ◌++◌, Option, arith, length, length-append, subst, sym, take}
use Rattle.std.proofs.KnownBytes.{Appends-trans}
use Rattle.std.specs.Io.KnownBytes.{Appends}
use Rattle.std.proofs.Math.Seq.{take-append-add}
use Rattle.std.proofs.lemmas.List.{take-append-le}
use Rattle.byte_io.specs.Written.{AppendsFront}

-- a beginning of the first text begins both
pub front_of_first : (old new : Option (List ℕ)) (first second : List ℕ) → AppendsFront old new first → AppendsFront old new (first ++ second)
front_of_first old new first second (k, few, gained) =
    (k, omega (arith, few, length-append first second), subst (Appends old new) (sym (take-append-le k first second few)) gained)

-- the first text and a beginning of the second begin both
pub front_of_both : (old mid new : Option (List ℕ)) (first second : List ℕ) → Appends old mid first → AppendsFront mid new second
    → AppendsFront old new (first ++ second)
front_of_both old mid new first second whole (k, few, gained) = (
  length first + k,
  omega (arith, few, length-append first second),
  subst (Appends old new) (sym (take-append-add first second k)) (Appends-trans old mid new first (take k second) whole gained),
)
