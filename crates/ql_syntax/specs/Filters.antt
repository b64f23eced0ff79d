-- Filters of a query statement, as a tree.
-- Source: the Overpass QL page of the OpenStreetMap wiki, "Filters".
use Rattle.std.specs.Prelude.{ℕ, ℤ, List}
use Rattle.osm_model.specs.Boxes.{ExactBox}
use Rattle.ql_syntax.specs.declared.path.Path.{Path}

pub data Filter : Type 0 where
  -- `.a`
  InSet : List ℕ → Filter
  -- `[k]`, `[k=v]`, `[!k]`, `[k!=v]`
  HasKey : List ℕ → Filter
  KeyIs : List ℕ → List ℕ → Filter
  LacksKey : List ℕ → Filter
  KeyIsNot : List ℕ → List ℕ → Filter
  -- `(id)`, `(id:..)`
  Ids : List ℤ → Filter
  -- `(south,west,north,east)`
  Within : ExactBox → Filter
  -- `(w)`, `(bn.a)`
  Via : Path → List ℕ → Filter
