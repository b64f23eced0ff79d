-- The text of an object in each mode.
-- Source: the fields and letters of Osmium's OPL manual; which fields a mode keeps, their order and
-- their spelling are this project's.
use Rattle.std.specs.Prelude.{ℕ, List, [], ◌∷◌, ◌++◌}
use Rattle.std.specs.List.{join_with_byte}
use Rattle.osm_model.specs.Bytes.{line_feed, space}
use Rattle.osm_model.specs.Elements.{Element}
use Rattle.osm_model.specs.CanonicalLine.{name_field, meta_fields, tags_field, body_fields}
use Rattle.osm_model.specs.declared.out_mode.OutMode.{OutMode}
use Rattle.osm_model.specs.declared.out_mode.OutMode.TheVariants as modes

-- the fields that a mode keeps
abbrev pub fields_of : Element → OutMode → List (List ℕ)
fields_of o modes.Ids = name_field o ∷ []
fields_of o modes.Tags = name_field o ∷ tags_field o.tags ∷ []
fields_of o modes.Skel = name_field o ∷ body_fields o.body
fields_of o modes.Body = name_field o ∷ tags_field o.tags ∷ body_fields o.body
fields_of o modes.Meta = (name_field o ∷ meta_fields o.meta) ++ (tags_field o.tags ∷ body_fields o.body)

-- the line with its LF
unfoldable pub text_of : Element → OutMode → List ℕ
text_of o mode = join_with_byte space (fields_of o mode) ++ line_feed ∷ []
