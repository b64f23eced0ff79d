use Rattle.std.proofs.Common.{rules, arith, ◌≤◌, length, refl, inr}
use Rattle.std.specs.Str.{IsUtf8}
use Rattle.ql_syntax.specs.Queries.{IsText, Long}
use Rattle.ql_syntax.proofs.QueryLemmas.{read_whole, refused_at}
use Rattle.ql_syntax.proofs.GivesRules.{query_gives}
use Rattle.ql_syntax.proofs.RuleLemmas.{read_of}
use Rattle.ql_syntax.proofs.parser.read_text.Goals as goal

pub returns-then-text-gt-TEXT_LIMIT-clause-refused : goal.returns-then-text-gt-TEXT_LIMIT-clause-refused
returns-then-text-gt-TEXT_LIMIT-clause-refused c = inr (Long (omega arith) refl refl)

pub returns-in-Ok-clause-read : goal.returns-in-Ok-clause-read
returns-in-Ok-clause-read c =
    let utf8 : IsUtf8 c.args.text.now = search rules in
    let short : length c.args.text.now ≤ 65536 = omega arith in
    let text : IsText c.args.text.now = record { short = short; utf8 = utf8 } in
    rw c.new.ensures (read_whole text c.in-Ok.ensures)

pub returns-in-Err-read_query-clause-refused : goal.returns-in-Err-read_query-clause-refused
returns-in-Err-read_query-clause-refused c =
    let utf8 : IsUtf8 c.args.text.now = search rules in
    let short : length c.args.text.now ≤ 65536 = omega arith in
    let text : IsText c.args.text.now = record { short = short; utf8 = utf8 } in
    let told = c.fault_at.ensures in
    refused_at told.cause told.memory told.byte text c.in-Err-read_query.ensures

pub new-requires : goal.new-requires
new-requires c = query_gives.gives _ _ _ (read_of c.in-Ok.ensures)
