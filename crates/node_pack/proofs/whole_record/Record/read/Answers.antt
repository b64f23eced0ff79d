use Rattle.node_pack.proofs.WholeRecordLemmas.{record_at}
use Rattle.node_pack.proofs.whole_record.Record.read.Goals as goal

pub returns-clause-read : goal.returns-clause-read
returns-clause-read g c = λ bytes limit place_of nodes key reads are is.
    record_at bytes limit place_of nodes key c.args.place _ (are key c.args.place is) (c.in_ok-read_record.ensures.read bytes (c.in_ok-size.ensures.stays bytes reads))
