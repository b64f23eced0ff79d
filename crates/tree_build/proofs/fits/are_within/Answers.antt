use Rattle.tree_node.specs.NodeRefs.{links_of}
use Rattle.tree_build.specs.internal.FitLaws.{links_parts}
use Rattle.tree_build.proofs.fits.are_within.Goals as goal
use Rattle.tree_build.proofs.fits.are_within.Goals.{then-not-have_keys-via-then-not-have_keys, then-not-have_keys-via-else-not-have_keys+then-not-have_keys-2}

pub returns-then-not-have_keys : goal.returns-then-not-have_keys
returns-then-not-have_keys c = (
  (λ yes. absurd cc),
  (λ within.
      let parts = links_parts (links_of c.args.before.now) (links_of c.args.items.now) within in
      elim c.then-not-have_keys.branch [
        | then-not-have_keys-via-then-not-have_keys w ↦ absurd (let yes = c.have_keys.ensures.1 parts.0.greatest in cc)
        | then-not-have_keys-via-else-not-have_keys+then-not-have_keys-2 w ↦ absurd (let yes = w.have_keys-else-not-have_keys.ensures.1 parts.1.greatest in cc)
      ]),
)
