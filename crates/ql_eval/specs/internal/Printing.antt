-- What is printed for each of several references.
use Rattle.std.specs.Prelude.{ℕ, List, [], Option, Some, None, flat_map}
use Rattle.osm_model.specs.Elements.{Element}
use Rattle.osm_model.specs.Sets.{object_at}
use Rattle.osm_model.specs.declared.reference.Ref.{Ref}
use Rattle.osm_forms.specs.Forms.{form_name, form_text}
use Rattle.osm_forms.specs.declared.form.Form.{Form}
use Rattle.osm_model.specs.declared.out_mode.OutMode.{OutMode}

-- the text of an object that was asked for
abbrev pub line_of : Form → OutMode → Option Element → List ℕ
line_of form mode None = []
line_of form mode (Some o) = form_text form o mode

-- the text of the object with a reference
abbrev pub line_at : Form → List Element → OutMode → Ref → List ℕ
line_at form objects mode name = line_of form mode (object_at objects name)

-- so many references, as lines
abbrev pub name_lines : Form → List Ref → List ℕ
name_lines form = flat_map (form_name form)

-- the texts of the objects with these references
abbrev pub lines_at : Form → List Element → OutMode → List Ref → List ℕ
lines_at form objects mode = flat_map (line_at form objects mode)
