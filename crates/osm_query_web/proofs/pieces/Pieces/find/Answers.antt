use Rattle.std.proofs.Common.{◌∙◌, ℕ, Bor, IsSome, List, None, Option, Some}
use Rattle.std.proofs.lemmas.Bool.{false≢true}
use Rattle.std.specs.Option.{IfNone}
use Rattle.osm_query_web.specs.Pieces.{IsMissing}
use Rattle.std.proofs.lemmas.Option.{IfSome_then}
use Rattle.osm_query_web.proofs.PieceLemmas.{ends_within, of_each, part_of}
use Rattle.osm_query_web.specs.internal.Reading.{IsPieceOf}
use Rattle.osm_query_web.proofs.pieces.Pieces.find.Goals as goal

pub returns-clause-found : goal.returns-clause-found
returns-clause-found c file are =
    let piece = c.in_ok-holder_of.field-0 in
    let found = c.in_ok-holder_of.ensures.found in
    let is = of_each (IsPieceOf c.args.self.now.bytes.now file) c.args.self.now.pieces.items piece are.each found.0 in
    IfSome_then c.part.result c.part.ensures.part (λ part part_is. part_is ∙ part_of c.args.self.now.bytes.now file piece c.args.wanted found.1 is)

-- a piece that has it all has its bytes
if_some : (part : Option (Bor (List ℕ))) (P : Type 0) → IsSome part → IfNone part P
if_some (Some part) P some = tt
if_some None P some = absurd (false≢true some)

pub returns-clause-missing : goal.returns-clause-missing
returns-clause-missing c spans are len =
    if_some c.part.result (IsMissing spans c.args.wanted) (c.part.ensures.whole (ends_within spans c.args.self.now c.in_ok-holder_of.field-0 are len c.in_ok-holder_of.ensures.found.0))
