use Rattle.std.proofs.Common.{◌≡◌, [], length, arith, ◌∙◌}
use Rattle.tree_stream.specs.declared.level.Row.{Row}
use Rattle.tree_stream.proofs.HoldLemmas.{only_link}
use Rattle.tree_stream.proofs.level.OpenLevel.only.Goals as goal

pub returns-in-len1 : goal.returns-in-len1
returns-in-len1 c = λ links held.
    let none : Row = record { len = 0; number = 0; digest = record { 0 = [] } } in
    only_link links c.as_slice.result.now none (c.as_slice.ensures.value ∙ held.rows) (omega arith)
