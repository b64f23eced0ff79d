use Rattle.std.proofs.lemmas.List.Sorted.{Contains-permutation, IsPermutation-sym}
use Rattle.tree_build.specs.StrangeShelves.{IsRefusedFor}
use Rattle.tree_node.specs.declared.tree.Tree.TheVariants.{Objects}
use Rattle.osm_keys.specs.Publications.{tree_in}
use Rattle.osm_index.specs.Applying.{names_of}
use Rattle.osm_index.proofs.ChangeTreeLemmas.{refused_as}
use Rattle.osm_index.proofs.NamedLemmas.{found_apart, found_from, found_to}
use Rattle.osm_index.proofs.named_objects.named_objects.Goals as goal

pub returns-in_err-objects-clause-told : goal.returns-in_err-objects-clause-told
returns-in_err-objects-clause-told g c = λ p holds.
    refused_as (IsRefusedFor (tree_in p Objects) (g.S.Shelf.holds c.list_named.new.shelf)) c.from_residual.result c.in_err-objects.field-0.0 c.from_residual.ensures.1 (c.in_err-objects.ensures.told p holds)

pub returns-in-Err-clause-told : goal.returns-in-Err-clause-told
returns-in-Err-clause-told g c = λ p holds. absurd (c.in-Err.ensures.twice.1 (rw (c.in_ok-objects.ensures.listed p holds) (found_apart p.objects (names_of c.args.changes.now) c.requires)))

pub returns-in-Ok-clause-named : goal.returns-in-Ok-clause-named
returns-in-Ok-clause-named g c = λ p holds.
    let names = names_of c.args.changes.now in
    let permuted = rw (c.in_ok-objects.ensures.listed p holds) at c.in-Ok.ensures.made.0 in
    record {
      set = c.in-Ok.ensures.made.1;
      members = λ o. (
        (λ h. found_from p.objects names o (Contains-permutation _ _ o (IsPermutation-sym _ _ permuted) h)),
        (λ (is, named). Contains-permutation _ _ o permuted (found_to p.objects holds.published.set names o is named)),
      );
    }
