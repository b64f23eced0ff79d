use Rattle.std.proofs.Common.{refl}
use Rattle.opl_codec.proofs.ValueTags.{tags_made}
use Rattle.opl_codec.proofs.tag_item.read_tags.Goals as goal

pub returns-in-Some-clause-read : goal.returns-in-Some-clause-read
returns-in-Some-clause-read c =
    let read = c.in_ok-tags.ensures.read in
    let found = c.in-Some.ensures.found in
    let short = rw c.deref.ensures.value at (c.if-not-are_short.ensures.0 refl) in
    rw c.new.ensures (tags_made c.args.text.now c.in_ok-tags.tags.items c.in-Some.tags.items read.0 read.1 short found.0 found.1)
