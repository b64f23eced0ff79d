use Rattle.std.proofs.Common.{List, [], ◌∷◌, ℕ, arith, ap, length, refl, subst, sym, length-append}
use Rattle.std.proofs.lemmas.List.{length-map}
use Rattle.tree_node.specs.Parts.{node_of}
use Rattle.tree_node.specs.declared.part.Part.{Part}
use Rattle.osm_prove.specs.Proofs.{nodes_of}
use Rattle.osm_prove.proofs.FormLemmas.{is_empty, nodes_pushed, not_empty}
use Rattle.osm_prove.proofs.shared.ListingLaws.{HasRead, headless, none_read, one_more, cut_short, too_long, whole_read}
use Rattle.osm_prove.proofs.proof_reader.read_parts.Goals as goal

pub returns-in_default-clause-malformed : goal.returns-in_default-clause-malformed
returns-in_default-clause-malformed c = λ _. headless c.args.bytes.now (c.in_default.ensures.none refl)

pub loop-init : goal.loop-init
loop-init c = record {
  number = ap (length {A = Part}) c.new-parts.ensures.items;
  read = subst (λ (ps : List Part). HasRead c.args.bytes.now c.in-Some.nodes.now c.in-Some.count (nodes_of ps)) (sym c.new-parts.ensures.items)
      (none_read c.args.bytes.now c.in-Some.nodes.now c.in-Some.count c.in-Some.ensures.some c.in-Some.ensures.few);
}

pub loop-preserved : goal.loop-preserved
loop-preserved c =
    let pushed = c.in_ok-push.ensures.items in
    record {
      number = omega (arith, ap (length {A = Part}) pushed, length-append c.loop.parts.items (c.new.result ∷ []), c.loop.invariant.number);
      read = subst (λ (ns : List (List ℕ)). HasRead c.args.bytes.now c.in-Some-read_node.after.now c.in-Some.count ns)
          (nodes_pushed c.loop.parts.items c.push.new.self.items c.new.result c.in-Some-read_node.node.now pushed c.new.ensures)
          (one_more c.args.bytes.now c.loop.rest.now c.in-Some-read_node.after.now c.in-Some-read_node.node.now c.in-Some.count (nodes_of c.loop.parts.items)
          c.loop.invariant.read c.in-Some-read_node.ensures.some c.in-Some-read_node.ensures.short);
    }

pub returns-in_default-read_node-clause-malformed : goal.returns-in_default-read_node-clause-malformed
returns-in_default-read_node-clause-malformed c = λ _.
    cut_short c.args.bytes.now c.loop.rest.now c.in-Some.count (nodes_of c.loop.parts.items) c.loop.invariant.read
    (omega (arith, c.loop-test.true, c.loop.invariant.number, length-map c.loop.parts.items node_of))
    (λ node after short. c.in_default-read_node.ensures.none refl node after short)

pub returns-then-not-is_empty-clause-malformed : goal.returns-then-not-is_empty-clause-malformed
returns-then-not-is_empty-clause-malformed c = λ _.
    too_long c.args.bytes.now c.loop.rest.now c.in-Some.count (nodes_of c.loop.parts.items) c.loop.invariant.read
    (omega (arith, c.loop-test.false, c.loop.auto.counter-end, c.loop.invariant.number, length-map c.loop.parts.items node_of))
    (not_empty (length c.loop.rest.now) c.is_empty.result c.is_empty.ensures c.if-not-is_empty.true)

pub returns-clause-read : goal.returns-clause-read
returns-clause-read c =
    whole_read c.args.bytes.now c.loop.rest.now c.in-Some.count (nodes_of c.loop.parts.items) c.loop.invariant.read
    (omega (arith, c.loop-test.false, c.loop.auto.counter-end, c.loop.invariant.number, length-map c.loop.parts.items node_of))
    (is_empty (length c.loop.rest.now) c.is_empty.result c.is_empty.ensures c.if-not-is_empty.false)
