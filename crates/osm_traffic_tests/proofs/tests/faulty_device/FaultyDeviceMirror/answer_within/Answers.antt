use Rattle.std.proofs.Common.{◌≡◌, ◌∙◌, ap, false, inl, inr, sym, true}
use Rattle.std.specs.Prelude.{is_ok}
use Rattle.osm_traffic_tests.proofs.tests.faulty_device.FaultyDeviceMirror.answer_within.Goals as goal

pub returns-then-eq-clause-refused : goal.returns-then-eq-clause-refused
returns-then-eq-clause-refused c = λ fault has.
    elim (c.answer_within-answered.ensures.refused fault has) [
      | inl is ↦ (let no : false ≡ true = sym (ap is_ok is) ∙ sym c.if-is_ok.ensures.value in absurd (cc))
      | inr is ↦ (let no : false ≡ true = sym (ap is_ok is) ∙ sym c.if-is_ok.ensures.value in absurd (cc))
    ]
