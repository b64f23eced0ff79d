use Rattle.std.proofs.Common.{arith, ◌<◌, ◌≡◌, ℕ, List, length, get_or, take}
use Rattle.std.specs.List.{slice_range}
use Rattle.std.proofs.lemmas.Grind.{common_steps}
use Rattle.std.proofs.lemmas.Str.{IsCharBoundary-after_ascii}
use Rattle.byte_io.proofs.shared.FoundPieces.{cut_none, cut_some, stood}
use Rattle.opl_codec.proofs.cut_text.first_piece.Goals as goal

pub range_from-requires : goal.range_from-requires
range_from-requires c = λ some.
    let found = rw c.as_bytes.ensures.value at c.in-Some.ensures in
    let inside : c.in-Some.at < length c.args.text.now = found.0.high in
    let byte = stood c.args.byte (get_or c.args.text.now c.in-Some.at 0) found.1 in
    let ascii = c.requires in
    IsCharBoundary-after_ascii c.args.text.now c.in-Some.at c.utf8.text inside (omega arith)

front_is : (text : List ℕ) (n : ℕ) → slice_range text 0 n ≡ take n text
front_is text n = grind (arith, common_steps)

pub returns-in-Some : goal.returns-in-Some
returns-in-Some c =
    let found = rw c.as_bytes.ensures.value at c.in-Some.ensures in
    rw (c.range.ensures.value, front_is c.args.text.now c.in-Some.at) (cut_some c.args.byte c.args.text.now _ c.in-Some.at c.range_from.ensures.value found.0 found.1)

pub returns-in-None : goal.returns-in-None
returns-in-None c = cut_none c.args.byte c.args.text.now (rw c.as_bytes.ensures.value at c.in-None.ensures)
