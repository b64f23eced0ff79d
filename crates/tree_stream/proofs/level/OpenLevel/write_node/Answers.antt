use Rattle.std.proofs.Common.{◌≡◌, ◌≢◌, ℕ, ◌+◌, ◌<◌, ◌≤◌, List, ◌++◌, ◌∷◌, [], length, map, sum_by, arith, sym, ap, subst, ◌∙◌}
use Rattle.std.proofs.lemmas.List.{length-map}
use Rattle.tree_node.specs.Digests.{digest}
use Rattle.tree_node.specs.NodeRefs.{link_of, links_of, number_of}
use Rattle.tree_node.specs.Nodes.{Inner, Link, spelling}
use Rattle.tree_stream.specs.internal.Holding.{HoldsLinks, link_total}
use Rattle.tree_build.specs.internal.Building.{AreWithin}
use Rattle.tree_stream.proofs.HoldLemmas.{level_items, links_total}
use Rattle.tree_stream.proofs.WithinLemmas.{greatest_fits}
use Rattle.tree_stream.proofs.level.OpenLevel.write_node.Goals as goal

pub children_of-requires : goal.children_of-requires
children_of-requires g c =
    let held = c.requires.1 in
    let total : link_total c.as_slice-2.result.now ≡ length c.as_slice.result.now =
    ap link_total (c.as_slice-2.ensures.value ∙ held.rows) ∙ links_total c.requires.0 ∙ ap (length {A = ℕ}) (sym (c.as_slice.ensures.value ∙ held.keys)) in
    omega (arith, total)

pub write_inner-requires-clause-few : goal.write_inner-requires-clause-few
write_inner-requires-clause-few g c =
    let found = level_items c.args.self.now c.requires.0 c.as_slice.result.now c.as_slice-2.result.now (links_of c.as_slice-3.result.now) c.requires.1 c.as_slice.ensures.value c.as_slice-2.ensures.value
    (ap links_of c.as_slice-3.ensures.value ∙ c.in_ok-children.ensures) in
    omega (arith, c.requires.2, ap (length {A = Link}) found, length-map c.as_slice-3.result.now link_of)

pub write_inner-requires-clause-fit : goal.write_inner-requires-clause-fit
write_inner-requires-clause-fit g c = λ k d lt.
    let found = level_items c.args.self.now c.requires.0 c.as_slice.result.now c.as_slice-2.result.now (links_of c.as_slice-3.result.now) c.requires.1 c.as_slice.ensures.value c.as_slice-2.ensures.value
    (ap links_of c.as_slice-3.ensures.value ∙ c.in_ok-children.ensures) in
    let fit = greatest_fits c.as_slice-3.result.now (subst (λ (ls : List Link). AreWithin ls) (sym found) c.requires.3) k d lt in omega (arith, fit)

pub entries_below-requires : goal.entries_below-requires
entries_below-requires g c =
    let found = level_items c.args.self.now c.requires.0 c.as_slice.result.now c.as_slice-2.result.now (links_of c.as_slice-5.result.now) c.requires.1 c.as_slice.ensures.value c.as_slice-2.ensures.value
    (ap links_of c.as_slice-5.ensures.value ∙ c.in_ok-children.ensures) in
    subst (λ (ls : List Link). AreWithin ls) (sym found) c.requires.3

pub returns-clause-states : goal.returns-clause-states
returns-clause-states g c = λ links held.
    let found = level_items c.args.self.now links c.as_slice.result.now c.as_slice-2.result.now (links_of c.as_slice-3.result.now) held c.as_slice.ensures.value c.as_slice-2.ensures.value
    (ap links_of c.as_slice-3.ensures.value ∙ c.in_ok-children.ensures) in
    let again = ap links_of (c.as_slice-5.ensures.value ∙ sym c.as_slice-3.ensures.value) ∙ found in
    record {
      number = c.entries_below.ensures ∙ ap (λ (ls : List Link). sum_by (λ (l : Link). l.number) ls) again;
      child = c.digest_of.ensures ∙ ap digest (c.as_slice-6.ensures.value ∙ c.in_ok-write_inner.ensures.written
          ∙ ap (λ (bs : List ℕ). bs ++ spelling (Inner (number_of c.args.tree) c.args.level (links_of c.as_slice-3.result.now))) c.clear.ensures.items
          ∙ ap (λ (ls : List Link). spelling (Inner (number_of c.args.tree) c.args.level ls)) found);
    }

pub returns-clause-put : goal.returns-clause-put
returns-clause-put g c = λ links held.
    let found = level_items c.args.self.now links c.as_slice.result.now c.as_slice-2.result.now (links_of c.as_slice-3.result.now) held c.as_slice.ensures.value c.as_slice-2.ensures.value
    (ap links_of c.as_slice-3.ensures.value ∙ c.in_ok-children.ensures) in
    record {
      here = c.in_ok-put.ensures.gained ∙ ap (λ (bs : List ℕ). g.W.NodeWriter.given c.args.writer.now c.args.level ++ bs ∷ [])
          (c.as_slice-4.ensures.value ∙ c.in_ok-write_inner.ensures.written
          ∙ ap (λ (bs : List ℕ). bs ++ spelling (Inner (number_of c.args.tree) c.args.level (links_of c.as_slice-3.result.now))) c.clear.ensures.items
          ∙ ap (λ (ls : List Link). spelling (Inner (number_of c.args.tree) c.args.level ls)) found);
      others = c.in_ok-put.ensures.others;
    }
