use Rattle.std.proofs.Common.{refl}
use Rattle.opl_codec.specs.declared.change.Change.TheVariants.{Put}
use Rattle.osm_index.proofs.NamedLemmas.{line_puts, never_deleted, never_none, put_is}
use Rattle.osm_index.proofs.all_objects.read_object.Goals as goal

pub returns-in-Ok-Some-Put-clause-read : goal.returns-in-Ok-Some-Put-clause-read
returns-in-Ok-Some-Put-clause-read c = λ o is line.
    put_is _ o _ (c.read_line.ensures.only (Put o) (line_puts c.args.line.now o is line)) (rw (c.in-Ok-Some-Put.is, c.in-Ok-Some-Put.field-0-is, c.in-Ok-Some-Put.field-0-0-is) refl)

pub returns-in-Ok-Some-Delete-clause-told : goal.returns-in-Ok-Some-Delete-clause-told
returns-in-Ok-Some-Delete-clause-told c = λ o is line.
    absurd (never_deleted _ o c.in-Ok-Some-Delete.field-0-0-0 (c.read_line.ensures.only (Put o) (line_puts c.args.line.now o is line)) (rw (c.in-Ok-Some-Delete.is, c.in-Ok-Some-Delete.field-0-is, c.in-Ok-Some-Delete.field-0-0-is) refl))

pub returns-in-Ok-None-clause-told : goal.returns-in-Ok-None-clause-told
returns-in-Ok-None-clause-told c = λ o is line.
    absurd (never_none _ o (c.read_line.ensures.only (Put o) (line_puts c.args.line.now o is line)) (rw (c.in-Ok-None.is, c.in-Ok-None.field-0-is) refl))

pub returns-in-Err-clause-told : goal.returns-in-Err-clause-told
returns-in-Err-clause-told c = λ o is line. c.fault_of.ensures.memory (c.in-Err.ensures.only (Put o) (line_puts c.args.line.now o is line))
