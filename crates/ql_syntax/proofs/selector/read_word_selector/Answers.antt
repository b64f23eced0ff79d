use Rattle.ql_syntax.proofs.RuleLemmas.{follows_case, follows_of, follows_refuse}
use Rattle.ql_syntax.specs.Selectors.{word_selector}
use Rattle.ql_syntax.proofs.selector.read_word_selector.Goals as goal

pub returns-in-Ids : goal.returns-in-Ids
unfolding word_selector
returns-in-Ids c = follows_case _ c.in-Ids.ensures c.read_id_list.ensures

pub returns-in-Along : goal.returns-in-Along
unfolding word_selector
returns-in-Along c = follows_case _ c.in-Along.ensures (follows_of c.read_path_from.ensures)

pub returns-in-Unsupported : goal.returns-in-Unsupported
unfolding word_selector
returns-in-Unsupported c = follows_case _ c.in-Unsupported.ensures (follows_refuse c.at.ensures.cause c.at.ensures.rest)

pub returns-in-Unknown : goal.returns-in-Unknown
unfolding word_selector
returns-in-Unknown c = follows_case _ c.in-Unknown.ensures (follows_refuse c.at-in-Unknown.ensures.cause c.at-in-Unknown.ensures.rest)
