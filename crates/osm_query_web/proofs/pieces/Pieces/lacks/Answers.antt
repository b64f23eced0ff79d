use Rattle.std.proofs.Common.{◌∙◌, arith, sym}
use Rattle.std.proofs.lemmas.Bool.{ltb-true}
use Rattle.osm_query_web.proofs.PieceLemmas.{wanted_if}
use Rattle.osm_query_web.proofs.pieces.Pieces.lacks.Goals.{then-span-gt0, else-span-gt0}
use Rattle.osm_query_web.proofs.pieces.Pieces.lacks.Goals as goal

pub returns-then-is_within : goal.returns-then-is_within
returns-then-is_within c spans are =
    elim c.if-span-gt0.branch [
      | then-span-gt0 w ↦
          (wanted_if spans c.args.self.now c.args.span c.holder_of.result c.is_none.result are w.if-span-gt0.true (w.is_within.ensures.0 (sym w.value-is ∙ c.if-is_within.true)) c.is_none.ensures
          c.holder_of.ensures.found (c.holder_of.ensures.missing spans are))
      | else-span-gt0 w ↦ absurd (omega (arith, ltb-true _ _ (sym w.value-is ∙ c.if-is_within.true)))
    ]
