use Rattle.std.proofs.Common.{ap, length, arith}
use Rattle.std.proofs.lemmas.List.{length-append}
use Rattle.light_index.proofs.light_listing.append_tag.Goals as goal
use Rattle.osm_keys.proofs.shared.KeyLengths.{tag_key_len}
use Rattle.osm_keys.specs.Keys.{tag_key}

pub overflow_cast-key : goal.overflow_cast-key
overflow_cast-key c =
    let longer = ap length (rw (c.as_bytes.ensures, c.as_bytes-2.ensures) at c.in_ok-append_tag_key.ensures.written) in
    let sum = length-append c.args.bytes.now.items (tag_key c.args.tag.now.key c.args.tag.now.value c.args.name) in
    let size = tag_key_len c.args.tag.now.key c.args.tag.now.value c.args.name in
    omega (arith, longer, sum, size, c.append_tag_key.new.out.ok.0, c.args.bytes.now.ok.0)
