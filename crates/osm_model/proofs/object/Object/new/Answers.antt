use Rattle.std.proofs.Common.{rules, ◌<◌, ◌^◌, length, refl, inl, inr, FitsSigned}
use Rattle.std.specs.Int.{w64}
use Rattle.std.proofs.lemmas.Int.{to_z-of_z}
use Rattle.std.proofs.lemmas.Bool.{cases_lt}
use Rattle.std.proofs.lemmas.Cmp.{nat_list_cmp_total}
use Rattle.osm_model.specs.declared.tag.Tag.{Tag}
use Rattle.osm_model.specs.Elements.{Element}
use Rattle.osm_model.specs.CanonicalLine.{canonical_line}
use Rattle.osm_model.specs.Limits.{IsMadeOf}
use Rattle.osm_model.proofs.shared.ObjectParts.{element, twice, faultless}
use Rattle.osm_model.proofs.shared.RisingKeys.{rising}
use Rattle.osm_model.proofs.object.Object.new.Goals as goal

pub returns-then-not-keys_rise-clause-refused : goal.returns-then-not-keys_rise-clause-refused
returns-then-not-keys_rise-clause-refused c = (
  rw c.deref.ensures.value at (c.if-not-parts_fit.ensures.0 refl),
  rw c.deref-2.ensures.value at (c.if-not-parts_are_clean.ensures.0 refl),
  twice _ _ c.sort_tags.ensures.permutation c.sort_tags.ensures.sorted (λ up. absurd (let n = c.if-not-keys_rise.ensures.1 (rw c.deref-3.ensures.value up) in cc)),
)

pub returns-then-not-has_short_line-clause-refused : goal.returns-then-not-has_short_line-clause-refused
returns-then-not-has_short_line-clause-refused c =
    let id_fits : FitsSigned w64 c.args.id = search rules in
    let o : Element = record { id = c.args.id; meta = c.args.meta; tags = c.sort_tags.new.tags.items; body = c.args.body } in
    let long : 2 ^ 24 < length (canonical_line o) = elim (cases_lt (2 ^ 24) (length (canonical_line o))) [
      | inl lt ↦ lt
      | inr short ↦ absurd (let n = c.if-not-has_short_line.ensures.1 (simp (to_z-of_z, c.deref-4.ensures.value) short) in cc)
    ] in
    let made : IsMadeOf o c.args.id c.args.meta c.args.tags.items c.args.body = record {
      same_id = refl;
      same_meta = refl;
      same_tags = c.sort_tags.ensures.permutation;
      same_body = refl;
      rising = rising (λ (tag : Tag). tag.key) nat_list_cmp_total _ (rw c.deref-3.ensures.value at (c.if-not-keys_rise.ensures.0 refl));
    } in
    inr (rw c.deref-2.ensures.value at (c.if-not-parts_are_clean.ensures.0 refl), (o, made, long))

pub invariant_of-result : goal.invariant_of-result
invariant_of-result c =
    rw c.new.ensures (element _ _ _ _ _ (search rules) c.note_numbers.ensures c.note_body.ensures c.sort_tags.ensures.permutation (rw c.deref-5.ensures.value at c.note_texts.ensures)
    (rw c.deref.ensures.value at (c.if-not-parts_fit.ensures.0 refl)) (rw c.deref-2.ensures.value at (c.if-not-parts_are_clean.ensures.0 refl))
    (rw c.deref-3.ensures.value at (c.if-not-keys_rise.ensures.0 refl)) (rw c.deref-4.ensures.value at (c.if-not-has_short_line.ensures.0 refl)))

pub returns-clause-made : goal.returns-clause-made
returns-clause-made c =
    let is = invariant_of-result c in
    (record { same_id = search rules; same_meta = refl; same_tags = rw c.new.ensures c.sort_tags.ensures.permutation; same_body = refl; rising = is.rising }, is)

pub returns-clause-only : goal.returns-clause-only
returns-clause-only c = let both = returns-clause-made c in faultless _ _ _ _ _ both.0 both.1
