use Rattle.std.proofs.Common.{◌∙◌, ap}
use Rattle.node_pack.specs.Packs.{node_in}
use Rattle.node_pack.proofs.RecordLemmas.{node_again}
use Rattle.node_pack.proofs.whole_record.Record.node.Goals as goal

pub returns-clause-given : goal.returns-clause-given
returns-clause-given c = λ place_of limit nodes key is.
    c.split_record.ensures.node ∙ ap node_in (c.as_slice.ensures.value ∙ is.bytes) ∙ node_again place_of is.kept is.short
