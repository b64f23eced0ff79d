use Rattle.std.proofs.Common.{List, ℕ, subst}
use Rattle.ql_syntax.specs.Grammar as grammar
use Rattle.ql_syntax.proofs.GivesRules.{query_gives}
use Rattle.ql_syntax.proofs.QueryLemmas.{query_ends}
use Rattle.ql_syntax.proofs.QuerySpellings.{query_reads, query_sound}
use Rattle.ql_syntax.proofs.laws.one_language.Goals as goal

pub returns-clause-spelled : goal.returns-clause-spelled
returns-clause-spelled c = λ bytes statements rest reads.
    (query_ends bytes rest statements reads, subst (λ (s : List ℕ). grammar.query statements bytes s) (query_ends bytes rest statements reads) (query_sound bytes rest statements reads), query_gives.gives bytes statements rest reads)

pub returns-clause-read : goal.returns-clause-read
returns-clause-read c = λ bytes statements spelled lawful. query_reads bytes statements lawful spelled
