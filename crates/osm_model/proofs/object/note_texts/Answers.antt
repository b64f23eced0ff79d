use Rattle.osm_model.proofs.object.note_texts.Goals as goal

pub returns : goal.returns
returns c = record { user = c.note_utf8.ensures; in_tags = c.note_tags.ensures; in_members = rw c.members_of.ensures at c.note_roles.ensures }
