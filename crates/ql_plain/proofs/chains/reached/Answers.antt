use Rattle.std.proofs.Common.{List, get_or, pos, subst}
use Rattle.std.proofs.lemmas.List.{get_or_default}
use Rattle.osm_model.specs.declared.kind.Kind.TheVariants.{Node}
use Rattle.osm_model.specs.declared.reference.Ref.{Ref}
use Rattle.std.specs.List.{Contains}
use Rattle.ref_sets.specs.Sets.{IsSetOf}
use Rattle.ref_sets.proofs.shared.Adding.{adds_all, adds_more, adds_start}
use Rattle.ql_plain.proofs.Paths.{paths_are}
use Rattle.ql_plain.specs.internal.Paths.{IsPath, IsStep}
use Rattle.ql_plain.proofs.chains.reached.Goals as goal

pub loop-name-init : goal.loop-name-init
loop-name-init c = record {
  told = c.new-found.ensures.told;
  adds = rw c.new-found.ensures.empty (adds_start c.as_slice-names.result.now (IsStep c.args.steps.now));
}

pub loop-name-preserved : goal.loop-name-preserved
loop-name-preserved c =
    let from = c.as_slice-names.result.now in
    let k = c.loop-name.name-index in
    let first : Ref = record { kind = Node; id = pos 0 } in
    let name = get_or from k first in
    record {
      told = c.in_ok-follow.ensures.told;
      adds = adds_more from (IsStep c.args.steps.now) k name c.loop-name-test.true (get_or_default from k first name c.loop-name-test.true) c.loop-name.invariant.adds c.in_ok-follow.ensures.follows.adds;
    }

pub returns : goal.returns
returns c =
    let steps = c.args.steps.now in
    let names = c.as_slice-names.result.now in
    subst (λ (from : List Ref). IsSetOf c.from_refs.result (λ r. (s : Ref) × Contains from s × IsPath steps s r)) c.as_slice-names.ensures.value
    (paths_are steps names c.loop-name.found.refs.items c.follow_found.new.self.refs.items c.from_refs.result
    (adds_all names (IsStep steps) c.loop-name.name-index c.loop-name-test.false c.loop-name.invariant.adds) c.in_ok-follow_found.ensures c.from_refs.ensures)
