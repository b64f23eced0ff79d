-- Lines as nodes: the digest that each entry states which names an object.
-- Source: this project.
use Rattle.std.specs.Prelude.{ℕ, List}
use Rattle.osm_model.specs.CanonicalLine.{canonical_line}
use Rattle.osm_model.specs.Elements.{Element}
use Rattle.tree_node.specs.Digests.{digest}

-- the digest of an object's canonical line, without LF
abbrev pub digest_of_line : Element → List ℕ
digest_of_line o = digest (canonical_line o)
