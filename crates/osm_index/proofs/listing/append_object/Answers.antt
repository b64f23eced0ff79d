use Rattle.std.proofs.Common.{◌≡◌, ◌-◌, refl, ℕ, List, ◌++◌, length, ap, ◌∙◌, append_assoc, arith}
use Rattle.std.proofs.lemmas.List.{length-append}
use Rattle.osm_model.specs.CanonicalLine.{canonical_line}
use Rattle.osm_model.specs.Elements.{reference}
use Rattle.osm_keys.specs.Entries.{object_entry}
use Rattle.osm_keys.specs.Grains.{Whole}
use Rattle.osm_keys.specs.Keys.{ref_key}
use Rattle.osm_index.proofs.ListingLemmas.{gains_one, line_left}
use Rattle.osm_keys.proofs.shared.KeyLengths.{ref_key_len}
use Rattle.osm_index.proofs.listing.append_object.Goals as goal

pub overflow_sub-len : goal.overflow_sub-len
overflow_sub-len c =
    let line = line_left c.args.object.now c.extend_from_slice.new.self.items c.write_object.new.out.items c.pop.new.self.items c.write_object.new.out.len c.in_ok-write_object.ensures.written c.write_object.new.out.ok.0 c.pop.ensures.rest in
    let longer = ap length line in
    let sum = length-append c.extend_from_slice.new.self.items (canonical_line c.args.object.now) in
    omega (arith, c.pop.new.self.ok.0, c.extend_from_slice.new.self.ok.0, longer, sum)

pub overflow_cast-len : goal.overflow_cast-len
overflow_cast-len c =
    let line = line_left c.args.object.now c.extend_from_slice.new.self.items c.write_object.new.out.items c.pop.new.self.items c.write_object.new.out.len c.in_ok-write_object.ensures.written c.write_object.new.out.ok.0 c.pop.ensures.rest in
    let longer = ap length line in
    let sum = length-append c.extend_from_slice.new.self.items (canonical_line c.args.object.now) in
    let short = c.reference.ensures.element.short_line in
    omega (arith, c.pop.new.self.ok.0, c.extend_from_slice.new.self.ok.0, longer, sum, short)

pub returns : goal.returns
returns c =
    let o = c.args.object.now in
    let line = line_left o c.extend_from_slice.new.self.items c.write_object.new.out.items c.pop.new.self.items c.write_object.new.out.len c.in_ok-write_object.ensures.written c.write_object.new.out.ok.0 c.pop.ensures.rest in
    let longer = ap length line in
    let sum = length-append c.extend_from_slice.new.self.items (canonical_line o) in
    let front = c.in_ok-extend_from_slice.ensures.items ∙ ap (λ (t : List ℕ). c.args.bytes.now.items ++ t) (c.reference_key.ensures ∙ ap ref_key c.reference.ensures.value) in
    let texts : c.pop.new.self.items ≡ c.args.bytes.now.items ++ (ref_key (reference o) ++ canonical_line o) = line ∙ ap (λ (t : List ℕ). t ++ canonical_line o) front ∙ append_assoc c.args.bytes.now.items (ref_key (reference o)) (canonical_line o) in
    let value : c.len.result - c.len-start.result ≡ length (canonical_line o) = omega (arith, c.pop.new.self.ok.0, c.extend_from_slice.new.self.ok.0, longer, sum) in
    gains_one _ _ _ _ (object_entry Whole o) 9 (length (canonical_line o)) texts (rw (c.in_ok-push.ensures.items, value) refl) (ref_key_len (reference o)) refl
