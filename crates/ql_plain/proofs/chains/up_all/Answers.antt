use Rattle.std.proofs.Common.{List, true, subst}
use Rattle.std.specs.List.{Contains}
use Rattle.osm_model.specs.declared.reference.Ref.{Ref}
use Rattle.ref_sets.specs.Sets.{IsSetOf}
use Rattle.ref_sets.proofs.shared.Results.{if_ok_as}
use Rattle.ql_plain.proofs.Paths.{up_all}
use Rattle.ql_plain.specs.declared.links.Link.{Link}
use Rattle.ql_plain.specs.declared.step.Step.{Step}
use Rattle.ql_plain.specs.internal.Paths.{IsPath}
use Rattle.ql_plain.specs.internal.Steps.{AreSteps}
use Rattle.ql_plain.proofs.chains.up_all.Goals as goal

pub returns : goal.returns
returns c =
    let links = c.in_ok-links.links.items in
    let steps = c.in_ok-steps.steps.items in
    let from = c.args.from.now in
    let up : AreSteps true links steps = subst (λ (all : List Link). AreSteps true all steps) c.deref.ensures.value c.in_ok-steps.ensures.steps in
    if_ok_as c.reached.result
    (λ refs are. up_all c.args.set.now c.as_slice.ensures.set links c.in_ok-links.ensures steps up from refs
    (subst (λ (them : List Step). IsSetOf refs (λ r. (s : Ref) × Contains from s × IsPath them s r)) c.deref-2.ensures.value are))
    c.reached.ensures
