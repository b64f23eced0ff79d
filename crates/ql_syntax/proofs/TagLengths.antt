-- What filters by tags leave.
use Rattle.std.proofs.Common.{List, ℕ, ◌∷◌, length, arith, ap, length-append}
use Rattle.std.specs.List.{flat_map}
use Rattle.ql_syntax.specs.QuotedTexts.{spelling}
use Rattle.ql_syntax.specs.TokenRules.{Next, text_here}
use Rattle.ql_syntax.specs.TagFilters.{tag_filter, tag_rest, tag_value, tag_text, tag_text_at, tag_close, not_in_tag}
use Rattle.ql_syntax.proofs.Lengths.{Within, within_then, within_next, within_choose, within_give, within_refuse, within_from, within_run}

not_in_tag_within : {A : Type 0} {start : List ℕ} (next : Next) → Within start (not_in_tag {A = A} next)
unfolding not_in_tag
not_in_tag_within next = within_refuse _ next.place

text_within : {start : List ℕ} → Within start text_here
unfolding text_here
text_within = record {
  at_most = λ text value rest le reads.
      let e = ap (λ (x : List ℕ). length x) reads.opens in
      let p = ap (λ (x : List ℕ). length x) (reads.passes).parts in
      omega (arith, length-append (flat_map spelling (reads.passes).pieces) (reads.quote ∷ rest));
}

tag_text_at_within : (next : Next) → Within next.place (tag_text_at next)
unfolding tag_text_at
tag_text_at_within next = within_choose _ (within_from text_within) (within_choose _ (within_from within_run) (not_in_tag_within next))

tag_text_within : {start : List ℕ} → Within start tag_text
unfolding tag_text
tag_text_within = within_next _ tag_text_at_within

tag_close_within : {start : List ℕ} → Within start tag_close
unfolding tag_close
tag_close_within = within_next _ (λ next. within_choose _ (within_give tt) (not_in_tag_within next))

tag_value_within : {start : List ℕ} → Within start tag_value
unfolding tag_value
tag_value_within = within_then _ tag_text_within (λ value. within_then _ tag_close_within (λ close. within_give _))

tag_rest_within : {start : List ℕ} (key : List ℕ) → Within start (tag_rest key)
unfolding tag_rest
tag_rest_within key = within_next _ (λ next. within_choose _ (within_give _)
    (within_choose _ (within_then _ tag_value_within (λ value. within_give _))
    (within_choose _ (within_then _ tag_value_within (λ value. within_give _)) (not_in_tag_within next))))

pub tag_filter_within : {start : List ℕ} → Within start tag_filter
unfolding tag_filter
tag_filter_within = within_next _ (λ next. within_choose _ (within_then _ tag_value_within (λ key. within_give _)) (within_then _ (tag_text_at_within next) (λ key. tag_rest_within key)))
