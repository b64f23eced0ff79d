use Rattle.std.proofs.Common.{◌≡◌, ◌-◌, ◌∷◌, length, get_or, take, drop, refl, arith, to_z-of_z}
use Rattle.opl_codec.proofs.LineNames.{unnamed, gap_unnamed, begins, named, bad_id, cut_first}
use Rattle.opl_codec.proofs.line_fields.read_name.Goals as goal

pub returns-then-first-ne0-clause-refused : goal.returns-then-first-ne0-clause-refused
returns-then-first-ne0-clause-refused c = (refl, unnamed c.args.line.now c.args.text.now c.requires (gap_unnamed c.args.text.now c.in-Some.first.gap c.in-Some.first.field.now c.in-Some.first.rest.now c.in-Some.ensures c.if-first-ne0.true))

pub returns-in-Some-read_number-clause-read : goal.returns-in-Some-read_number-clause-read
returns-in-Some-read_number-clause-read c =
    let first = c.in-Some.first in
    let bytes = c.as_bytes.result.now in
    let digits = take (length bytes - 1) (drop 1 bytes) in
    let split : first.field.now ≡ get_or bytes 0 0 ∷ digits = cut_first first.field.now bytes c.as_bytes.ensures.value (omega (arith, c.in-len1-up.len_at_least)) in
    rw (to_z-of_z c.in-Some-read_number.ensures.1)
    (named c.args.text.now first.gap first.field.now first.rest.now (get_or bytes 0 0) digits c.in-Some.ensures (omega (arith, c.if-first-ne0.false)) split c.args.line.now c.requires c.in-Some-kind_of.kind c.in-Some-kind_of.ensures c.in-Some-read_number.id c.in-Some-read_number.ensures)

pub returns-in-None-clause-refused : goal.returns-in-None-clause-refused
returns-in-None-clause-refused c =
    let first = c.in-Some.first in
    let bytes = c.as_bytes.result.now in
    let digits = take (length bytes - 1) (drop 1 bytes) in
    let split : first.field.now ≡ get_or bytes 0 0 ∷ digits = cut_first first.field.now bytes c.as_bytes.ensures.value (omega (arith, c.in-len1-up.len_at_least)) in (
      refl,
      (c.in-Some-kind_of.kind, begins c.args.text.now first.gap first.field.now first.rest.now (get_or bytes 0 0) digits c.in-Some.ensures (omega (arith, c.if-first-ne0.false)) split c.args.line.now c.requires c.in-Some-kind_of.kind c.in-Some-kind_of.ensures),
      bad_id c.args.text.now first.gap first.field.now first.rest.now (get_or bytes 0 0) digits c.in-Some.ensures (omega (arith, c.if-first-ne0.false)) split c.args.line.now c.requires c.in-Some-kind_of.kind c.in-Some-kind_of.ensures c.in-None.ensures,
    )
