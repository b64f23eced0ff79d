use Rattle.std.proofs.Common.{◌≡◌, ◌-◌, length, drop, sym, ◌∙◌, ap, subst, arith, length-drop}
use Rattle.std.proofs.lemmas.Str.{IsCharBoundary-after_ascii}
use Rattle.opl_codec.proofs.LineSteps.{came, fault_within, taken, some_field, first_byte}
use Rattle.opl_codec.proofs.line_parts.LineParts.take.Goals as goal

pub returns-then-is_said-clause-refused : goal.returns-then-is_said-clause-refused
returns-then-is_said-clause-refused c line there kind says = (
  c.args.field.now,
  there,
  subst (λ b. Rattle.opl_codec.specs.Fields.field b (drop 1 (Rattle.opl_codec.specs.LineFields.fields there.front)) ≡ Rattle.std.proofs.Common.None → ⊥) c.in-Some.ensures
      (came c.in-Some.letter (drop 1 (Rattle.opl_codec.specs.LineFields.fields there.front)) c.args.self.now says (sym c.is_said.ensures ∙ c.if-is_said.true)),
)

pub range_from-requires : goal.range_from-requires
range_from-requires c = λ some. IsCharBoundary-after_ascii c.args.field.now 0 c.utf8.field (some_field c.in-Some.letter c.args.field.now c.in-Some.ensures) (first_byte c.in-Some.letter c.args.field.now c.in-Some.ensures)

pub fault_at-requires : goal.fault_at-requires
fault_at-requires c = omega (arith, c.requires, fault_within c.in-Some.letter c.range_from.result.now c.in-Err.fault c.in-Err.ensures.refused, ap length c.range_from.ensures.value, length-drop 1 c.args.field.now)

pub returns-in-Ok-clause-ok : goal.returns-in-Ok-clause-ok
returns-in-Ok-clause-ok c done says =
    taken c.args.kind c.in-Some.letter c.args.field.now done c.args.self.now c.read.new.self c.in-Some.ensures (sym c.belongs_to.ensures ∙ c.if-not-belongs_to.false) (sym c.is_said.ensures ∙ c.if-is_said.false) says
    (rw (sym c.range_from.ensures.value) c.in-Ok.ensures.ok)
