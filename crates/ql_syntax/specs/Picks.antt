-- Which filters the kinds of a query statement allow.
-- Source: the Overpass QL page of the OpenStreetMap wiki, "Recurse (n, w, r, bn, bw, br)"; that boxes
-- choose among nodes alone, and `nwr` takes no path, is this project's.
use Rattle.std.specs.Prelude.{Bool, true, false}
use Rattle.ql_syntax.specs.declared.path.Path.{Path}
use Rattle.ql_syntax.specs.declared.path.Path.TheVariants as paths
use Rattle.ql_syntax.specs.declared.pick.Pick.{Pick}
use Rattle.ql_syntax.specs.declared.pick.Pick.TheVariants as picks

-- a path may lead to objects of this kind
abbrev pub allows : Pick → Path → Bool
allows picks.Node paths.W = true
allows picks.Node paths.R = true
allows picks.Way paths.R = true
allows picks.Way paths.Bn = true
allows picks.Rel paths.R = true
allows picks.Rel paths.Bn = true
allows picks.Rel paths.Bw = true
allows picks.Rel paths.Br = true
allows pick path = false

-- a box may choose among objects of this kind
abbrev pub takes_boxes : Pick → Bool
takes_boxes picks.Node = true
takes_boxes picks.Way = false
takes_boxes picks.Rel = false
takes_boxes picks.Nwr = false
