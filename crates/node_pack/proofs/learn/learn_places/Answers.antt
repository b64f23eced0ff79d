use Rattle.std.proofs.Common.{◌<◌, [], Some, subst, sym, ap, arith, ◌∙◌}
use Rattle.node_pack.specs.Known.{IsBetween}
use Rattle.node_pack.specs.declared.place.Place.{Place}
use Rattle.node_pack.proofs.RecordLemmas.{next_of, one_more, none_learned}
use Rattle.node_pack.proofs.learn.learn_places.Goals as goal

pub loop-child-init : goal.loop-child-init
loop-child-init c = record {
  keeps = λ key known. known;
  between = λ place_of old is. none_learned place_of c.args.limit c.args.places.now c.args.children.now c.args.table.now old is;
}

pub returns-in_default-clause-learned : goal.returns-in_default-clause-learned
returns-in_default-clause-learned c = λ place_of old is.
    let between = c.loop-child.invariant.between place_of old is in
    let first = next_of place_of c.args.limit c.loop-child.places c.args.children.now c.loop-child.child-index (record { 0 = [] }) c.loop-child.rest.now c.loop-child-test.true between in
    absurd (omega (arith, first.long, c.in_default.ensures))

pub returns-in_err-remember-clause-trues : goal.returns-in_err-remember-clause-trues
returns-in_err-remember-clause-trues c = λ place_of old is.
    let between = c.loop-child.invariant.between place_of old is in
    let first = next_of place_of c.args.limit c.loop-child.places c.args.children.now c.loop-child.child-index (record { 0 = [] }) c.loop-child.rest.now c.loop-child-test.true between in
    c.remember.ensures.trues place_of between.trues (first.is ∙ ap (λ (p : Place). Some p) (sym c.in-Some.ensures.1))

pub loop-child-preserved : goal.loop-child-preserved
loop-child-preserved c = record {
  keeps = λ key known. c.remember.ensures.keeps key (c.loop-child.invariant.keeps key known);
  between = λ place_of old is.
      let between = c.loop-child.invariant.between place_of old is in
      let first = next_of place_of c.args.limit c.loop-child.places c.args.children.now c.loop-child.child-index (record { 0 = [] }) c.loop-child.rest.now c.loop-child-test.true between in
      let place = c.in-Some.ensures.1 in
      let trues = c.remember.ensures.trues place_of between.trues (first.is ∙ ap (λ (p : Place). Some p) (sym place)) in
      let known = c.in_ok-remember.ensures.known (subst (λ (p : Place). p.at < c.args.limit) (sym place) first.near) in
      subst (IsBetween place_of c.args.limit c.remember.new.places _ _) (sym c.in-Some.ensures.2)
      (one_more place_of c.args.limit c.loop-child.places c.remember.new.places c.args.children.now c.loop-child.child-index (record { 0 = [] }) c.loop-child.rest.now c.loop-child-test.true between c.remember.ensures.keeps known trues);
}
