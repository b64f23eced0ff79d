use Rattle.std.proofs.Common.{rules, tests, codes}
use Rattle.std.specs.Prelude.{◌==◌}
use Rattle.std.proofs.lemmas.Iterator.Search.{any_from_yields_List}
use Rattle.std.proofs.lemmas.Iterator.Splits.{YieldsList-from_slice_split}
use Rattle.httparse.specs.Grammar.{trim_ows}
use Rattle.http_messages.specs.Fields.{same_name}
use Rattle.http_messages.proofs.fields.lists_close.Goals as goal

pub returns : goal.returns
returns c =
    any_from_yields_List (λ token. same_name (trim_ows token) (codes "close")) _ _ _ c.any.ensures.ran
    (YieldsList-from_slice_split _ (λ b. b == 44) c.args.value.now c.split.ensures.rest c.split.ensures.done c.split.ensures.closure (λ x b q k. search (rules, tests)))
    (λ x b q k. search (rules, tests))
