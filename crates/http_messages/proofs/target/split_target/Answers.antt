use Rattle.std.proofs.Common.{◌∙◌, ◌+◌, ap, sym, arith, take, drop, ℕ}
use Rattle.http_messages.proofs.TargetLemmas.{mark-some, path-none, part-none}
use Rattle.http_messages.proofs.target.split_target.Goals as goal

pub split_at-requires : goal.split_at-requires
split_at-requires c = let found = mark-some c.args.target.now c.in-Some.place (sym c.question_mark.ensures ∙ c.in-Some.is) in omega (arith, found.1)

pub split_at-requires-in-Some : goal.split_at-requires-in-Some
split_at-requires-in-Some c = let found = mark-some c.args.target.now c.in-Some.place (sym c.question_mark.ensures ∙ c.in-Some.is) in omega (arith, found.1)

pub returns-in-Some-clause-path : goal.returns-in-Some-clause-path
returns-in-Some-clause-path c =
    let found = mark-some c.args.target.now c.in-Some.place (sym c.question_mark.ensures ∙ c.in-Some.is) in
    c.split_at.ensures.front ∙ ap (λ (n : ℕ). take n c.args.target.now) found.0

pub returns-in-Some-clause-query : goal.returns-in-Some-clause-query
returns-in-Some-clause-query c =
    let found = mark-some c.args.target.now c.in-Some.place (sym c.question_mark.ensures ∙ c.in-Some.is) in
    c.split_at-in-Some.ensures.back ∙ ap (λ (n : ℕ). drop (n + 1) c.args.target.now) found.0

pub returns-in-None-clause-path : goal.returns-in-None-clause-path
returns-in-None-clause-path c = path-none c.args.target.now (sym c.question_mark.ensures ∙ c.in-None.is)

pub returns-in-None-clause-query : goal.returns-in-None-clause-query
returns-in-None-clause-query c = part-none c.args.target.now (sym c.question_mark.ensures ∙ c.in-None.is)
