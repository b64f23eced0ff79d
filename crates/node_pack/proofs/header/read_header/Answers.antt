use Rattle.node_pack.proofs.HeaderLemmas.{read_is}
use Rattle.node_pack.proofs.header.read_header.Goals as goal

pub returns-in-Some-read_fields : goal.returns-in-Some-read_fields
returns-in-Some-read_fields c =
    let magic = c.in-Some.ensures.cases in
    let version = c.in-Some-split_first_chunk.ensures.cases in
    let fields = c.in-Some-read_fields.ensures in
    read_is c.args.front.now c.in-Some.rest.now c.in-Some-split_first_chunk.rest.now c.in-Some.magic.now c.in-Some-split_first_chunk.version.now c.args.size c.from_be_bytes.result c.from_be_bytes-2.result c.in-Some-read_fields.header c.for_size.result
    magic.0 magic.1 magic.2 version.0 version.1 version.2 fields.0 c.from_be_bytes.ensures c.from_be_bytes-2.ensures c.if-from_be_bytes-ne-MAGIC.false c.if-from_be_bytes-ne-VERSION.false fields.1 c.for_size.ensures
