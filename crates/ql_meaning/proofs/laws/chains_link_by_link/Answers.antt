use Rattle.ql_meaning.proofs.shared.Chains.{link_by_link}
use Rattle.ql_meaning.proofs.laws.chains_link_by_link.Goals as goal

pub returns : goal.returns
returns c = link_by_link
