-- The grammar of queries: which text spells a query, by recursion on its tree. It doesn't say which filters
-- go with which kinds, nor where statements may stand: that is `IsQuery`.
-- Source: the Overpass QL page of the OpenStreetMap wiki, as far as the profile goes.
use Rattle.std.specs.Prelude.{◌≡◌, ℕ, ℤ, List, [], ◌∷◌, Option, None, Some}
use Rattle.osm_model.specs.declared.out_mode.OutMode.{OutMode}
use Rattle.osm_model.specs.declared.out_mode.OutMode.TheVariants as modes
use Rattle.osm_model.specs.Boxes.{ExactBox}
use Rattle.osm_model.specs.Degrees.{Decimal}
use Rattle.ql_syntax.specs.Areas.{Corners, AreBox, box_of}
use Rattle.ql_syntax.specs.Filters.{Filter, InSet, HasKey, KeyIs, LacksKey, KeyIsNot, Ids, Within, Via}
use Rattle.ql_syntax.specs.Spellings.{Spelling, ◌&◌, ◌or◌, when, nothing, never, each, some, in_any_order, says, word, the_end, number, tag_text, named_set, source, into}
use Rattle.ql_syntax.specs.Statements.{Statement, Statements, Select, Recurse, Item, Union, Minus, Print, End, Then}
use Rattle.ql_syntax.specs.WholeNumbers.{IsId, IsCount}
use Rattle.ql_syntax.specs.declared.path.Path.{Path}
use Rattle.ql_syntax.specs.declared.path.Path.TheVariants as paths
use Rattle.ql_syntax.specs.declared.pick.Pick.{Pick}
use Rattle.ql_syntax.specs.declared.pick.Pick.TheVariants as picks
use Rattle.ql_syntax.specs.declared.recursion.Recursion.{Recursion}
use Rattle.ql_syntax.specs.declared.recursion.Recursion.TheVariants as recursions

abbrev pub in_parentheses : Spelling → Spelling
in_parentheses spelling = says "(" & spelling & says ")"

abbrev pub in_brackets : Spelling → Spelling
in_brackets spelling = says "[" & spelling & says "]"

-- `[out:json]`, `[out:xml]`, `[timeout:N]`, `[maxsize:N]`
abbrev pub format : Spelling
format = word "out" & says ":" & (word "json" or word "xml")

abbrev pub limit : Spelling
limit = (word "timeout" or word "maxsize") & says ":" & number (λ value. (count : ℕ) × IsCount value count)

abbrev pub setting : Spelling
setting = in_brackets (format or limit)

-- settings, or none
abbrev pub settings : Spelling
settings = (some setting & says ";") or nothing

abbrev pub id : ℤ → Spelling
id value = number (λ of. IsId of value)

abbrev pub other_id : ℤ → Spelling
other_id value = says "," & id value

-- `1`, or `id:1,2,3`
abbrev pub ids : List ℤ → Spelling
ids [] = never
ids (first ∷ more) = (when (more ≡ []) & id first) or (word "id" & says ":" & id first & each other_id more)

abbrev pub corner : Decimal → Spelling
corner value = number (λ of. of ≡ value)

-- `south,west,north,east`
abbrev pub corners : Corners → Spelling
corners all = corner all.south & says "," & corner all.west & says "," & corner all.north & says "," & corner all.east

-- the box with these corners
abbrev pub box : ExactBox → Spelling
box area text rest = (all : Corners) × AreBox all × (area ≡ box_of all) × corners all text rest

abbrev pub path : Path → Spelling
path paths.W = word "w"
path paths.R = word "r"
path paths.Bn = word "bn"
path paths.Bw = word "bw"
path paths.Br = word "br"

abbrev pub filter : Filter → Spelling
filter (InSet name) = named_set name
filter (HasKey key) = in_brackets (tag_text key)
filter (KeyIs key value) = in_brackets (tag_text key & says "=" & tag_text value)
filter (LacksKey key) = in_brackets (says "!" & tag_text key)
filter (KeyIsNot key value) = in_brackets (tag_text key & says "!=" & tag_text value)
filter (Ids all) = in_parentheses (ids all)
filter (Within area) = in_parentheses (box area)
filter (Via along set) = in_parentheses (path along & source set)

abbrev pub kind : Pick → Spelling
kind picks.Node = word "node"
kind picks.Way = word "way"
kind picks.Rel = word "rel" or word "relation"
kind picks.Nwr = word "nwr"

abbrev pub recursion : Recursion → Spelling
recursion recursions.Down = says ">"
recursion recursions.DownAll = says ">>"
recursion recursions.Up = says "<"
recursion recursions.UpAll = says "<<"

abbrev pub mode_word : OutMode → Spelling
mode_word modes.Ids = word "ids"
mode_word modes.Tags = word "tags"
mode_word modes.Skel = word "skel"
mode_word modes.Body = word "body"
mode_word modes.Meta = word "meta"

-- what may stand after `out`: a mode, or nothing for `body`; an order, or none; how many at most, or nothing
abbrev pub out_mode : OutMode → Spelling
out_mode mode = mode_word mode or when (mode ≡ modes.Body)

abbrev pub out_order : Spelling
out_order = word "asc" or word "qt" or nothing

abbrev pub out_limit : Option ℕ → Spelling
out_limit None = nothing
out_limit (Some most) = number (λ value. IsCount value most)

abbrev pub out_options : OutMode → Option ℕ → Spelling
out_options mode most = in_any_order (out_mode mode) out_order (out_limit most)

-- a statement, its `;` included
abbrev mutual
  pub statement : Statement → Spelling
  statement (Select pick filters set) = kind pick & each filter filters & into set
  statement (Recurse start how set) = source start & recursion how & into set
  statement (Item start set) = named_set start & into set
  statement (Union parts set) = in_parentheses (row parts) & into set
  statement (Minus left right set) = in_parentheses (statement left & says "-" & statement right) & into set
  statement (Print start mode most) = source start & word "out" & out_options mode most & says ";"

  -- each of these
  pub row : Statements → Spelling
  row End = nothing
  row (Then first more) = statement first & row more

-- a query: settings, statements, and the end
abbrev pub query : Statements → Spelling
query statements = settings & row statements & the_end
