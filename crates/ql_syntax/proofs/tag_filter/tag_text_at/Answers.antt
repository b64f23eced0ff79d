use Rattle.std.proofs.Common.{◌∙◌, sym, refl}
use Rattle.ql_syntax.specs.TagFilters.{tag_text_at}
use Rattle.ql_syntax.proofs.FilterLemmas.{quoted_stop, quoted_read, run_read, follows_not_in_tag}
use Rattle.ql_syntax.proofs.RuleLemmas.{follows_as, follows_exit, follows_from, follows_yes, follows_no, not_true}
use Rattle.ql_syntax.proofs.tag_filter.tag_text_at.Goals as goal

pub returns-in_err-quoted : goal.returns-in_err-quoted
unfolding tag_text_at
returns-in_err-quoted c =
    follows_yes _ (sym c.begins_quoted.ensures ∙ c.if-begins_quoted.true) (follows_from (follows_exit (quoted_stop c.in_err-quoted.ensures.refused) c.from_residual.ensures.1))

pub returns-in_ok-quoted : goal.returns-in_ok-quoted
unfolding tag_text_at
returns-in_ok-quoted c =
    follows_yes _ (sym c.begins_quoted.ensures ∙ c.if-begins_quoted.true) (follows_from (follows_as (quoted_read {q = c.in_ok-quoted.quoted} c.in_ok-quoted.ensures.read) refl refl))

pub returns-then-begins_run : goal.returns-then-begins_run
unfolding tag_text_at
returns-then-begins_run c =
    follows_no _ (not_true (sym c.begins_quoted.ensures ∙ c.if-begins_quoted.false))
    (follows_yes _ (sym c.begins_run.ensures ∙ c.if-begins_run.true) (follows_from (run_read c.split_run-found.ensures.run c.borrowed.ensures refl)))

pub returns-else-begins_run : goal.returns-else-begins_run
unfolding tag_text_at
returns-else-begins_run c =
    follows_no _ (not_true (sym c.begins_quoted.ensures ∙ c.if-begins_quoted.false))
    (follows_no _ (not_true (sym c.begins_run.ensures ∙ c.if-begins_run.false)) (follows_not_in_tag _ c.not_in_tag.ensures.cause c.not_in_tag.ensures.rest))
