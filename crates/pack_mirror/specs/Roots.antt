-- What the root of a pack stands for.
-- Source: this project.
use Rattle.std.specs.Prelude.{◌≡◌}
use Rattle.tree_node.specs.declared.digest.Digest.{Digest}
use Rattle.osm_keys.specs.Publications.{IsPublication, Publication, root_of}
use Rattle.ql_eval.specs.Work.{IsNodeOf}
use Rattle.outside_shelf.specs.SecondPreimages.{HaveSecondPreimage}

-- it is the root of this publication, no node of which has a second preimage
abbrev pub StandsFor : Digest → Publication → Type 0
StandsFor root p = IsPublication p × (root.0 ≡ root_of p) × ¬ HaveSecondPreimage (IsNodeOf p)
