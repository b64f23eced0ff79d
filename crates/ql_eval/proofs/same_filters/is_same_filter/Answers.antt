use Rattle.std.proofs.Common.{List, ℤ, ap, sym, ◌∙◌}
use Rattle.std.proofs.lemmas.Bool.Decides.{Decides-int_eq}
use Rattle.std.proofs.lemmas.Slice.Eq.{slice_eq-Decides}
use Rattle.ql_syntax.specs.Filters.{Ids}
use Rattle.ql_syntax.specs.StatementViews.{filter_of}
use Rattle.ql_eval.proofs.same_filters.is_same_filter.Goals as goal

pub returns-in-Ids-Ids : goal.returns-in-Ids-Ids
returns-in-Ids-Ids c = λ same.
    let ids = (slice_eq-Decides Decides-int_eq _ _ _ c.eq-in-Ids-Ids.ensures).0 same in
    ap filter_of c.in-Ids-Ids.is-0 ∙ ap (λ (l : List ℤ). Ids l) (sym c.as_slice.ensures ∙ ids ∙ c.as_slice-in-Ids-Ids.ensures) ∙ sym (ap filter_of c.in-Ids-Ids.is-1)
