use Rattle.std.proofs.lemmas.List.Sorted.{Contains-permutation, IsPermutation-sym}
use Rattle.osm_index.proofs.PutNames.{put_members, puts_apart}
use Rattle.osm_index.proofs.put_objects.copies_of_put.Goals as goal

pub unreachable-requires : goal.unreachable-requires
unreachable-requires c =
    let apart = puts_apart c.args.changes.now c.requires in
    c.in-Err.ensures.twice.1 (rw c.in_ok-puts.ensures apart)

pub returns : goal.returns
returns c =
    let permuted = rw c.in_ok-puts.ensures at c.in-Ok.ensures.made.0 in
    record {
      set = c.in-Ok.ensures.made.1;
      members = λ o. let put = put_members c.args.changes.now o in (
        (λ h. put.0 (Contains-permutation _ _ o (IsPermutation-sym _ _ permuted) h)),
        (λ h. Contains-permutation _ _ o permuted (put.1 h)),
      );
    }
