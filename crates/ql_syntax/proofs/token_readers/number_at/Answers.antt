use Rattle.ql_syntax.proofs.RuleLemmas.{follows_from, follows_give, keeps_stop, follows_then}
use Rattle.ql_syntax.specs.internal.Following.{Keeps, Read, Stopped}
use Rattle.ql_syntax.specs.TokenRules.{number_at, number_here}
use Rattle.std.proofs.Common.{refl}
use Rattle.std.proofs.Common.{List, ℕ, Ok, Err}
use Rattle.osm_model.specs.Degrees.{Decimal}
use Rattle.ql_syntax.specs.internal.NumberParts.{decimal_of}
use Rattle.ql_syntax.specs.Numbers.{IsNumber, IsNoNumber}
use Rattle.ql_syntax.specs.declared.number.Number.{Number}
use Rattle.ql_syntax.specs.declared.syntax_error.SyntaxError.{SyntaxError}
use Rattle.ql_syntax.proofs.token_readers.number_at.Goals as goal

abbrev the_decimal : Number → Decimal × List ℕ
the_decimal n = (decimal_of n, n.rest.now)

split : (place : List ℕ) (stop : SyntaxError) → IsNoNumber place stop.cause stop.rest.now → Keeps number_here the_decimal place (Err stop)
unfolding number_here
split place stop is = Stopped stop refl is

found : (place : List ℕ) (n : Number) → IsNumber place (decimal_of n) n.rest.now → Keeps number_here the_decimal place (Ok n)
unfolding number_here
found place n is = Read n refl is

pub returns-in_err-number-clause-follows : goal.returns-in_err-number-clause-follows
unfolding number_at
returns-in_err-number-clause-follows c =
    keeps_stop _ (follows_from (split c.args.token.place.now c.in_err-number.field-0.0 c.in_err-number.ensures.refused)) c.from_residual.ensures.1

pub returns-clause-follows : goal.returns-clause-follows
unfolding number_at
returns-clause-follows c =
    follows_then _ (follows_from (found c.args.token.place.now c.in_ok-number.number c.in_ok-number.ensures.read.number)) (follows_give refl refl)
