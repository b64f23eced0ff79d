use Rattle.ql_syntax.proofs.SpellingLemmas.{other_kind}
use Rattle.std.proofs.Common.{ap, refl, rules}
use Rattle.ql_syntax.specs.StatementRules.{block, difference, part, union}
use Rattle.ql_syntax.specs.StatementViews.{statement_of}
use Rattle.ql_syntax.specs.internal.StatementReaders.{other_statement, trees_of}
use Rattle.ql_syntax.specs.declared.level.Level.TheVariants as levels
use Rattle.ql_syntax.proofs.FilterLemmas.{follows_out}
use Rattle.ql_syntax.proofs.GatherLemmas.{alone, gather_done, gather_from, gather_next, gather_stop, mapped}
use Rattle.ql_syntax.proofs.RoundLemmas.{Start}
use Rattle.ql_syntax.proofs.RuleLemmas.{follows_from, follows_from_at, follows_give, follows_no, follows_refuse, follows_stop, follows_then, follows_yes, read_of}
use Rattle.ql_syntax.proofs.StatementLemmas.{at_block, at_last_depth, at_no_token, at_plain, one_less}
use Rattle.ql_syntax.proofs.StatementLists.{union_row}
use Rattle.ql_syntax.proofs.shared.StatementTrees.{minus_is}
use Rattle.ql_syntax.proofs.StatementLengths.{part_shorter, statement_shorter}
use Rattle.ql_syntax.proofs.statements.+statement.Goals as goal

pub read_statement-returns-in_err-token : goal.read_statement-returns-in_err-token
read_statement-returns-in_err-token n c = at_no_token c.args.level c.args.depth c.in_err-token.ensures c.from_residual.ensures.1

pub read_statement-returns-in-OpenParenthesis : goal.read_statement-returns-in-OpenParenthesis
read_statement-returns-in-OpenParenthesis n c = at_last_depth c.args.level c.if-depth-eq0.true c.in_ok-token.ensures c.in-OpenParenthesis.is (follows_refuse c.at.ensures.cause c.at.ensures.rest)

pub read_statement-returns-in-OpenParenthesis-2 : goal.read_statement-returns-in-OpenParenthesis-2
read_statement-returns-in-OpenParenthesis-2 n c = at_block c.args.level _ (one_less c.args.depth c.if-depth-eq0.false) c.in_ok-token.ensures c.in-OpenParenthesis-2.is c.read_block.ensures

pub read_statement-returns-in_default : goal.read_statement-returns-in_default
read_statement-returns-in_default n c = at_plain c.args.level c.args.depth c.in_ok-token.ensures c.in_default.not-OpenParenthesis c.read_plain_statement.ensures

pub read_block-returns-in_err-first : goal.read_block-returns-in_err-first
unfolding block
read_block-returns-in_err-first n c = follows_stop _ c.in_err-first.ensures c.from_residual.ensures.1

pub read_block-returns-in_err-token : goal.read_block-returns-in_err-token
unfolding block
read_block-returns-in_err-token n c = follows_then _ c.in_ok-first.ensures (follows_stop _ c.in_err-token.ensures c.from_residual-in_err-token.ensures.1)

pub read_block-returns-in-Minus : goal.read_block-returns-in-Minus
unfolding block
read_block-returns-in-Minus n c =
    follows_then _ c.in_ok-first.ensures (follows_then _ c.in_ok-token.ensures (follows_yes _ c.in-Minus.is c.read_difference.ensures))

pub read_block-returns-in-Arrow : goal.read_block-returns-in-Arrow
unfolding block
read_block-returns-in-Arrow n c =
    follows_then _ c.in_ok-first.ensures (follows_then _ c.in_ok-token.ensures (follows_no _ (other_kind c.in-Arrow.is (λ e. cc))
    (follows_yes _ c.in-Arrow.is (follows_from_at _ _ c.after_byte.ensures c.read_difference-in-Arrow.ensures))))

pub read_block-returns-in_default : goal.read_block-returns-in_default
unfolding block
read_block-returns-in_default n c =
    follows_then _ c.in_ok-first.ensures (follows_then _ c.in_ok-token.ensures (follows_no _ c.in_default.not-Minus
    (follows_no _ c.in_default.not-Arrow (follows_from c.read_union.ensures))))

pub read_difference-returns-in_err-right : goal.read_difference-returns-in_err-right
unfolding difference
read_difference-returns-in_err-right n c = follows_stop _ c.in_err-right.ensures c.from_residual.ensures.1

pub read_difference-returns-in_err-rest : goal.read_difference-returns-in_err-rest
unfolding difference
read_difference-returns-in_err-rest n c = follows_then _ c.in_ok-right.ensures (follows_stop _ c.in_err-rest.ensures c.from_residual-in_err-rest.ensures.1)

pub read_difference-returns-in_err-into : goal.read_difference-returns-in_err-into
unfolding difference
read_difference-returns-in_err-into n c =
    follows_then _ c.in_ok-right.ensures (follows_then _ c.in_ok-rest.ensures (follows_stop _ c.in_err-into.ensures c.from_residual-in_err-into.ensures.1))

pub read_difference-returns-in_err-left : goal.read_difference-returns-in_err-left
read_difference-returns-in_err-left n c = let h = c.from_residual-in_err-left.ensures in follows_out h.1

pub read_difference-returns-in_err-right-2 : goal.read_difference-returns-in_err-right-2
read_difference-returns-in_err-right-2 n c = let h = c.from_residual-in_err-right-2.ensures in follows_out h.1

pub read_difference-returns : goal.read_difference-returns
unfolding difference
read_difference-returns n c = follows_then _ c.in_ok-right.ensures (follows_then _ c.in_ok-rest.ensures (follows_then _ c.in_ok-into.ensures (follows_give (minus_is (search rules) (search rules) c.in_ok-into.into) refl)))

pub read_union-returns-in_err-appended : goal.read_union-returns-in_err-appended
read_union-returns-in_err-appended n c = let h = c.from_residual.ensures in follows_out h.1

pub read_union-returns-in_err-parts : goal.read_union-returns-in_err-parts
unfolding union
read_union-returns-in_err-parts n c = follows_stop _ (gather_from _ (ap trees_of (alone c.new.ensures.items c.in_ok-appended.ensures)) c.in_err-parts.ensures) c.from_residual-in_err-parts.ensures.1

pub read_union-returns-in_err-into : goal.read_union-returns-in_err-into
unfolding union
read_union-returns-in_err-into n c =
    follows_then _ (gather_from _ (ap trees_of (alone c.new.ensures.items c.in_ok-appended.ensures)) c.in_ok-parts.ensures) (follows_stop _ c.in_err-into.ensures c.from_residual-in_err-into.ensures.1)

pub read_union-returns : goal.read_union-returns
unfolding union
read_union-returns n c =
    follows_then _ (gather_from _ (ap trees_of (alone c.new.ensures.items c.in_ok-appended.ensures)) c.in_ok-parts.ensures) (follows_then _ c.in_ok-into.ensures (follows_give (union_row c.in_ok-parts.parts c.in_ok-into.into) refl))

pub read_part-returns-in_err-token : goal.read_part-returns-in_err-token
unfolding part
read_part-returns-in_err-token n c = follows_stop _ c.in_err-token.ensures c.from_residual.ensures.1

pub read_part-returns-in_err-statement-in_default : goal.read_part-returns-in_err-statement-in_default
unfolding part
read_part-returns-in_err-statement-in_default n c =
    follows_then _ c.in_ok-token.ensures (follows_no _ c.in_default.not-CloseParenthesis (follows_stop _ (follows_from c.in_err-statement-in_default.ensures) c.from_residual-in_err-statement-in_default.ensures.1))

pub read_part-returns-in-CloseParenthesis : goal.read_part-returns-in-CloseParenthesis
unfolding part
read_part-returns-in-CloseParenthesis n c = follows_then _ c.in_ok-token.ensures (follows_yes _ c.in-CloseParenthesis.is (follows_give refl refl))

pub read_part-returns-in_ok-statement-in_default : goal.read_part-returns-in_ok-statement-in_default
unfolding part
read_part-returns-in_ok-statement-in_default n c =
    follows_then _ c.in_ok-token.ensures (follows_no _ c.in_default.not-CloseParenthesis (follows_then _ (follows_from c.in_ok-statement-in_default.ensures) (follows_give refl refl)))

pub read_parts-loop-other-init : goal.read_parts-loop-other-init
read_parts-loop-other-init n c = Start

pub read_parts-returns-in_err-other : goal.read_parts-returns-in_err-other
read_parts-returns-in_err-other n c = gather_stop c.loop-other.invariant c.in_err-other.ensures c.from_residual.ensures.1

pub read_parts-returns-in_err-parts-in-Some : goal.read_parts-returns-in_err-parts-in-Some
read_parts-returns-in_err-parts-in-Some n c = let h = c.from_residual-in_err-parts-in-Some.ensures in follows_out h.1

pub read_parts-loop-other-smaller : goal.read_parts-loop-other-smaller
read_parts-loop-other-smaller n c = (part_shorter (statement_shorter levels.Inner c.args.depth)).below _ _ _ (read_of c.in_ok-other.ensures)

pub read_parts-loop-other-preserved : goal.read_parts-loop-other-preserved
read_parts-loop-other-preserved n c = gather_next c.loop-other.invariant c.in_ok-other.ensures (mapped statement_of _ _ c.in_ok-parts-in-Some.ensures) (ap other_statement c.in-Some.is)

pub read_parts-returns-in-None : goal.read_parts-returns-in-None
read_parts-returns-in-None n c = gather_done c.loop-other.invariant c.in_ok-other.ensures (ap other_statement c.in-None.is) refl refl
