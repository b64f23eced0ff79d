use Rattle.std.proofs.lemmas.Slice.Eq.{slice_eq-Decides}
use Rattle.ql_eval.proofs.RememberLemmas.{decides_refs}
use Rattle.ql_eval.proofs.memo.are_same.Goals as goal

pub returns : goal.returns
returns c = slice_eq-Decides decides_refs _ _ _ c.eq.ensures
